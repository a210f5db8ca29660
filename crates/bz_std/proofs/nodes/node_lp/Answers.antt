use Rattle.std.proofs.Common.{rules, ◌≡◌, refl, sym, ap, ◌∙◌, ◌<◌, ◌≤◌, ◌+◌, ◌*◌, ◌++◌, [], ℕ, List, length, map, arith}
use Rattle.bz_model.specs.Limits.{list_limit}
use Rattle.bz_model.specs.Parting.{blocks_of, inequalities_of, width_of}
use Rattle.bz_model.proofs.InnerCosts.{decomposed}
use Rattle.bz_tableau.specs.declared.programs.Lp.{Lp}
use Rattle.bz_tree.specs.Boxes.{Box}
use Rattle.bz_tree.specs.Integers.{positions_of}
use Rattle.bz_std.specs.NodeLines.{box_lines, cut_lines, master_lines}
use Rattle.bz_std.specs.Posed.{IsProgramOf, line_of, line_over_columns}
use Rattle.bz_std.specs.Tasks.{node}
use Rattle.bz_std.proofs.NodeRows.{alpha_within, blocks_within, node_rows, node_rows_few, positions_few, sides_narrow}
use Rattle.bz_std.proofs.PosedLps.{is_lp}
use Rattle.bz_std.proofs.PosedTasks.{node_posed}
use Rattle.bz_std.proofs.Widths.{own_within, width_few}
use Rattle.bz_std.proofs.nodes.node_lp.Goals as goal

pub push_master_rows-requires-clause-own : goal.push_master_rows-requires-clause-own
push_master_rows-requires-clause-own c =
    let few : width_of c.args.split.now.part 0 < list_limit = width_few c.args.split.now 0 c.inequalities.ensures.split in
    own_within list_limit 0 c.args.split.now.part c.inequalities.result.now (omega arith) c.inequalities.ensures.fits

pub push_master_rows-requires-clause-sides : goal.push_master_rows-requires-clause-sides
push_master_rows-requires-clause-sides c = sides_narrow c.args.split.now.part 0 c.inequalities.result.now c.inequalities.ensures.fits

pub push_box_rows-requires-clause-few : goal.push_box_rows-requires-clause-few
push_box_rows-requires-clause-few c = rw (c.as_slice.ensures.value, c.in_ok-positions.ensures.positions) (positions_few c.args.split.now c.inequalities.ensures.split)

pub push_cut_rows-requires-clause-blocks : goal.push_cut_rows-requires-clause-blocks
push_cut_rows-requires-clause-blocks c = blocks_within c.args.split.now.part c.args.cuts.now c.inequalities.ensures.split.partition.few c.requires.cuts

pub push_cut_rows-requires-clause-alpha : goal.push_cut_rows-requires-clause-alpha
push_cut_rows-requires-clause-alpha c = rw c.width-width.ensures (alpha_within c.args.split.now.part c.args.cuts.now c.requires.cuts)

pub returns-clause-program : goal.returns-clause-program
returns-clause-program c =
    let split = c.args.split.now in
    let n : ℕ = width_of split.part 0 in
    let box : Box = record { lower = c.args.region.now.lower; upper = c.args.region.now.upper } in
    let first : map line_of c.push_master_rows.new.rows.items ≡ map line_over_columns (master_lines n (inequalities_of split.model split.part 0)) = rw (c.width-width.ensures, c.inequalities.ensures.value, c.new-rows.ensures.items) at c.in_ok-push_master_rows.ensures in
    let second : map line_of c.push_box_rows.new.rows.items ≡ map line_of c.push_master_rows.new.rows.items ++ map line_over_columns (box_lines n (positions_of split.model split.part) box) = rw (c.width-width.ensures, c.as_slice.ensures.value, c.in_ok-positions.ensures.positions, c.as_slice-lower.ensures, c.as_slice-upper.ensures) at c.in_ok-push_box_rows.ensures in
    let third : map line_of c.push_cut_rows.new.rows.items ≡ map line_of c.push_box_rows.new.rows.items ++ map line_over_columns (cut_lines n c.args.cuts.now) = rw c.width-width.ensures at c.in_ok-push_cut_rows.ensures in
    record {
      columns = (λ i. 2 * (c.width-width.ensures i + c.blocks-2.ensures.value i));
      rows = ap (map line_of) c.from_vec.ensures ∙ node_rows split.model split.part box c.args.cuts.now c.args.mode c.push_master_rows.new.rows.items c.push_box_rows.new.rows.items c.push_cut_rows.new.rows.items first second third;
      cost = c.in_ok-cost.ensures;
    }

pub returns-clause-is_lp : goal.returns-clause-is_lp
returns-clause-is_lp c =
    let split = c.args.split.now in
    let box : Box = record { lower = c.args.region.now.lower; upper = c.args.region.now.upper } in
    let lp : Lp = record { columns = 2 * (c.width-width.result + c.blocks-2.result); rows = c.from_vec.result; cost = c.in_ok-cost.cost } in
    let few : width_of split.part 0 < list_limit = width_few split 0 c.inequalities.ensures.split in
    let few_blocks : blocks_of split.part ≤ 256 = c.inequalities.ensures.split.partition.few in
    is_lp (node split.model split.part box c.args.cuts.now c.args.mode) lp (node_posed split.model split.part (decomposed split c.inequalities.ensures.split) box c.args.cuts.now c.requires.cuts c.args.mode) (returns-clause-program c) (omega arith) (node_rows_few split box c.args.cuts.now c.args.mode c.inequalities.ensures.split c.requires.few)
