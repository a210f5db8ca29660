use Rattle.std.proofs.Common.{◌≡◌, ◌+◌, subst, ℕ, pos, negsuc, arith}
use Rattle.bz_num.specs.SparseSums.{Steps}
use Rattle.bz_num.proofs.SparseSums.{steps_then, steps_wide}
use Rattle.bz_judge.specs.SideNumbers.{numbers_from}
use Rattle.bz_judge.proofs.SidesByPosition.{one_ahead}
use Rattle.bz_judge.proofs.leaf_sums.fold_ends.Goals as goal

pub returns-in_err-fold_entry-clause-steps : goal.returns-in_err-fold_entry-clause-steps
returns-in_err-fold_entry-clause-steps c =
    let first : ℕ = c.args.first in
    λ f upper lower.
    steps_wide c.args.multipliers.now (numbers_from first f) (numbers_from (first + 2) f) c.args.folding.now c.fold_entry.new.folding c.from_residual.result c.in_err-fold_entry.field-0.0 c.from_residual.ensures.1
    (c.in_err-fold_entry.ensures.steps (numbers_from first f) (numbers_from (first + 1) f) (one_ahead first (pos 1) f upper))

pub returns-clause-steps : goal.returns-clause-steps
returns-clause-steps c =
    let first : ℕ = c.args.first in
    let two : (first + 1) + 1 ≡ first + 2 = omega arith in
    λ f upper lower.
    steps_then c.args.multipliers.now (numbers_from first f) (numbers_from (first + 1) f) (numbers_from (first + 2) f) c.args.folding.now c.fold_entry.new.folding c.fold_entry-2.new.folding c.fold_entry-2.result
    (c.in_ok-fold_entry.ensures.steps (numbers_from first f) (numbers_from (first + 1) f) (one_ahead first (pos 1) f upper))
    (subst (λ (n : ℕ). Steps c.args.multipliers.now (numbers_from (first + 1) f) (numbers_from n f) c.fold_entry.new.folding c.fold_entry-2.new.folding c.fold_entry-2.result) two
    (c.fold_entry-2.ensures.steps (numbers_from (first + 1) f) (numbers_from ((first + 1) + 1) f) (one_ahead (first + 1) (negsuc 0) f lower)))
