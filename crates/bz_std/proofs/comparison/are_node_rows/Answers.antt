use Rattle.std.proofs.Common.{rules, ◌≡◌, ◌↔◌, ◌<◌, ◌+◌, ◌*◌, ap, sym, ◌∙◌, subst, ℕ, IsTrue, length, drop, take, arith}
use Rattle.std.proofs.lemmas.List.{length-map}
use Rattle.std.specs.List.{AllByRecursion}
use Rattle.bz_algebra.specs.Sums.{AllBelow}
use Rattle.bz_model.specs.Limits.{list_limit}
use Rattle.bz_model.specs.Parting.{inequalities_of, integers_of, position_of, width_of}
use Rattle.bz_tree.specs.Ends.{box_of}
use Rattle.bz_tree.specs.Integers.{positions_of}
use Rattle.bz_tree.specs.Leaves.{side_of_cut}
use Rattle.bz_std.specs.Compared.{AreRowsOfEach, Pairwise}
use Rattle.bz_std.specs.NodeLines.{side_lines}
use Rattle.bz_std.specs.Posed.{IsRowOf}
use Rattle.bz_std.specs.Tasks.{side_line}
use Rattle.bz_std.proofs.ListsCompared.{node_cuts, node_long, node_made, node_sides}
use Rattle.bz_std.proofs.NodeRows.{alpha_within, blocks_within}
use Rattle.bz_std.proofs.Tested.{refuted, told, told_not}
use Rattle.bz_std.proofs.Widths.{width_few}
use Rattle.bz_std.proofs.comparison.are_node_rows.Goals as goal

pub returns-then-rows-sides : goal.returns-then-rows-sides
returns-then-rows-sides c =
    let split = c.args.split.now in
    let s : ℕ = length c.inequalities.result.now + 2 * length c.as_slice.result.now in
    let count : s ≡ length (inequalities_of split.model split.part 0) + 2 * length (positions_of split.model split.part) =
    omega (arith, ap length c.inequalities.ensures.value, ap length c.as_slice.ensures, c.requires.region.lowers, length-map (integers_of split.model) (λ e. position_of split.part e.0)) in
    refuted (λ h. omega (arith, c.if-rows-sides.true, node_long split.model split.part (box_of c.args.region.now) c.args.rows.now c.args.cuts.now s count h))

pub are_cut_rows-requires-clause-few : goal.are_cut_rows-requires-clause-few
are_cut_rows-requires-clause-few c =
    let few : width_of c.args.split.now.part 0 < list_limit = width_few c.args.split.now 0 c.inequalities.ensures.split in
    omega (arith, c.width.ensures)

pub are_cut_rows-requires-clause-blocks : goal.are_cut_rows-requires-clause-blocks
are_cut_rows-requires-clause-blocks c = blocks_within c.args.split.now.part c.args.cuts.now c.inequalities.ensures.split.partition.few c.requires.cuts

pub are_cut_rows-requires-clause-alpha : goal.are_cut_rows-requires-clause-alpha
are_cut_rows-requires-clause-alpha c = subst (λ (n : ℕ). AllByRecursion (λ cut. AllBelow n cut.alpha) c.args.cuts.now) (sym c.width.ensures) (alpha_within c.args.split.now.part c.args.cuts.now c.requires.cuts)

pub returns-then-are_side_rows : goal.returns-then-are_side_rows
returns-then-are_side_rows c =
    let split = c.args.split.now in
    let box = box_of c.args.region.now in
    let rows = c.args.rows.now in
    let cuts = c.args.cuts.now in
    let n = width_of split.part 0 in
    let s : ℕ = length c.inequalities.result.now + 2 * length c.as_slice.result.now in
    let count : s ≡ length (inequalities_of split.model split.part 0) + 2 * length (positions_of split.model split.part) =
    omega (arith, ap length c.inequalities.ensures.value, ap length c.as_slice.ensures, c.requires.region.lowers, length-map (integers_of split.model) (λ e. position_of split.part e.0)) in
    let sides : AreRowsOfEach (side_lines split.model split.part box) (take s rows) = rw c.split_at.ensures.front at (c.are_side_rows.ensures.0 c.if-are_side_rows.true) in
    let tested : IsTrue c.are_cut_rows.result ↔ Pairwise (λ cut. IsRowOf (side_line c.width.result (side_of_cut cut))) cuts (drop s rows) = rw c.split_at.ensures.back at c.are_cut_rows.ensures in
    told tested
    (λ h. node_made split.model split.part box rows cuts s count sides (subst (λ (t : ℕ). Pairwise (λ cut. IsRowOf (side_line t (side_of_cut cut))) cuts (drop s rows)) c.width.ensures h))
    (λ h. subst (λ (t : ℕ). Pairwise (λ cut. IsRowOf (side_line t (side_of_cut cut))) cuts (drop s rows)) (sym c.width.ensures) (node_cuts split.model split.part box rows cuts s count h))

pub returns-else-are_side_rows : goal.returns-else-are_side_rows
returns-else-are_side_rows c =
    let split = c.args.split.now in
    let s : ℕ = length c.inequalities.result.now + 2 * length c.as_slice.result.now in
    let count : s ≡ length (inequalities_of split.model split.part 0) + 2 * length (positions_of split.model split.part) =
    omega (arith, ap length c.inequalities.ensures.value, ap length c.as_slice.ensures, c.requires.region.lowers, length-map (integers_of split.model) (λ e. position_of split.part e.0)) in
    told_not c.are_side_rows.ensures c.if-are_side_rows.false
    (λ h. rw c.split_at.ensures.front (node_sides split.model split.part (box_of c.args.region.now) c.args.rows.now c.args.cuts.now s count h))
