use Rattle.std.proofs.Common.{◌+◌, ◌*◌, ◌∙◌, ℕ, ℤ, pos, length}
use Rattle.bz_num.proofs.SparseSums.{left_is}
use Rattle.bz_cut.proofs.Steps.{multipliers_below}
use Rattle.bz_judge.specs.SideNumbers.{master_number, numbers_from}
use Rattle.bz_judge.proofs.SidesByPosition.{from_last}
use Rattle.bz_judge.proofs.leaf_sums.position_sum.Goals as goal

pub fold_from_column-requires-clause-places : goal.fold_from_column-requires-clause-places
fold_from_column-requires-clause-places c = multipliers_below _ c.args.multipliers.now c.requires.multipliers

pub returns : goal.returns
returns c =
    let f : ℕ → ℤ = master_number c.args.sides.now c.args.position in
    let first : ℕ = length c.args.sides.now.rows.now + 2 * length c.args.sides.now.positions.now in
    c.fold_from_column.ensures (numbers_from first f) (from_last first f)
    ∙ c.in_ok-fold_box.ensures.steps
    ∙ c.in_ok-fold_rows.ensures.steps
    ∙ left_is c.args.multipliers.now f c.new-folding.result 0 (pos 0) c.new-folding.ensures.count c.new-folding.ensures.sum
