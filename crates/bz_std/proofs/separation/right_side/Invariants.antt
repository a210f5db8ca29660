-- What is taken, with what is still to come, is the sum of the whole.
use Rattle.std.proofs.Common.{◌≡◌, ◌≤◌, ◌+◌, drop}
use Rattle.bz_num.specs.Fold.{fold_from, fold_of, pairs_at}
use Rattle.bz_model.specs.Parting.{negated}
use Rattle.bz_model.specs.Points.{coordinate}
use Rattle.bz_std.specs.Tasks.{right_pairs}
use Rattle.bz_std.proofs.separation.right_side.Given as goal

abbrev pub invariant-loop-entry : goal.invariant-loop-entry
invariant-loop-entry l = record {
  few : l.folding.count ≤ l.entry-index + 1;
  rest :
      fold_from l.folding.count l.folding.sum (pairs_at (negated (drop l.entry-index l.entry-items)) (coordinate l.point.x))
      ≡ fold_of (right_pairs l.point l.ineq);
}
