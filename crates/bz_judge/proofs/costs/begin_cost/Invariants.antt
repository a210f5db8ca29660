-- What is taken, with what is still to come, is the sum of the whole.
use Rattle.std.proofs.Common.{◌≡◌, ◌≤◌, ℤ, List, ◌++◌}
use Rattle.bz_num.specs.Fold.{fold_from, fold_of}
use Rattle.bz_model.specs.Parting.{inner_cost, terms_in}
use Rattle.bz_model.specs.PointSums.{row_pairs}
use Rattle.bz_judge.proofs.LaterEntries.{later}
use Rattle.bz_judge.proofs.costs.begin_cost.Given as goal

abbrev pub invariant-loop-position : goal.invariant-loop-position
invariant-loop-position l = record {
  few : l.folding.count ≤ l.position;
  rest : (rest : List (ℤ × ℤ)) →
      fold_of (row_pairs (terms_in l.split.part l.part (inner_cost l.split.model)) l.point ++ rest)
      ≡ fold_from l.folding.count l.folding.sum (row_pairs (later l.position (terms_in l.split.part l.part (inner_cost l.split.model))) l.point ++ rest);
}
