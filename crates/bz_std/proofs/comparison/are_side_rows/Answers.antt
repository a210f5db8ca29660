use Rattle.std.proofs.Common.{rules, ◌≡◌, ◌↔◌, ◌<◌, ap, sym, subst, ℕ, IsTrue, length, drop, take, arith}
use Rattle.bz_model.specs.Limits.{list_limit}
use Rattle.bz_model.specs.Parting.{inequalities_of, width_of}
use Rattle.bz_tree.specs.Ends.{box_of}
use Rattle.bz_tree.specs.Integers.{positions_of}
use Rattle.bz_tree.specs.Leaves.{side_of_master}
use Rattle.bz_std.specs.Compared.{AreRowsOfEach, Pairwise}
use Rattle.bz_std.specs.NodeLines.{box_lines}
use Rattle.bz_std.specs.Posed.{IsRowOf}
use Rattle.bz_std.specs.Tasks.{side_line}
use Rattle.bz_std.proofs.ListsCompared.{sides_box, sides_long, sides_made, sides_master}
use Rattle.bz_std.proofs.Tested.{refuted, told, told_not}
use Rattle.bz_std.proofs.Widths.{own_within, width_few}
use Rattle.bz_std.proofs.comparison.are_side_rows.Goals as goal

pub are_master_rows-requires : goal.are_master_rows-requires
are_master_rows-requires c =
    let few : width_of c.args.split.now.part 0 < list_limit = width_few c.args.split.now 0 c.inequalities-ineqs.ensures.split in
    own_within list_limit 0 c.args.split.now.part c.inequalities-ineqs.result.now (omega arith) c.inequalities-ineqs.ensures.fits

pub returns-then-rows-ineqs : goal.returns-then-rows-ineqs
returns-then-rows-ineqs c = refuted (λ h. omega (arith, c.if-rows-ineqs.true, ap length c.inequalities-ineqs.ensures.value, sides_long c.args.split.now.model c.args.split.now.part (box_of c.args.region.now) c.args.rows.now h))

pub returns-then-are_master_rows : goal.returns-then-are_master_rows
returns-then-are_master_rows c =
    let split = c.args.split.now in
    let box = box_of c.args.region.now in
    let rows = c.args.rows.now in
    let n = width_of split.part 0 in
    let is = inequalities_of split.model split.part 0 in
    let tested : Pairwise (λ i. IsRowOf (side_line c.width.result (side_of_master i))) is (take (length is) rows) = rw (c.split_at.ensures.front, c.inequalities-ineqs.ensures.value) at (c.are_master_rows.ensures.0 c.if-are_master_rows.true) in
    let master : Pairwise (λ i. IsRowOf (side_line n (side_of_master i))) is (take (length is) rows) = subst (λ (t : ℕ). Pairwise (λ i. IsRowOf (side_line t (side_of_master i))) is (take (length is) rows)) c.width.ensures tested in
    let ends : IsTrue c.are_box_rows.result ↔ AreRowsOfEach (box_lines n (positions_of split.model split.part) box) (drop (length is) rows) = rw (c.split_at.ensures.back, c.inequalities-ineqs.ensures.value, c.as_slice-lower.ensures, c.as_slice-upper.ensures) at c.are_box_rows.ensures in
    told ends
    (sides_made split.model split.part box rows master)
    (sides_box split.model split.part box rows)

pub returns-else-are_master_rows : goal.returns-else-are_master_rows
returns-else-are_master_rows c =
    let split = c.args.split.now in
    let rows = c.args.rows.now in
    let is = inequalities_of split.model split.part 0 in
    told_not c.are_master_rows.ensures c.if-are_master_rows.false
    (λ s. rw (c.split_at.ensures.front, c.inequalities-ineqs.ensures.value)
    (subst (λ (t : ℕ). Pairwise (λ i. IsRowOf (side_line t (side_of_master i))) is (take (length is) rows)) (sym c.width.ensures) (sides_master split.model split.part (box_of c.args.region.now) rows s)))
