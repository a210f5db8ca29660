-- What is taken, with what is still to come, is the sum of the whole.
use Rattle.std.proofs.Common.{◌≡◌, ◌+◌, ◌≤◌, drop, length, map}
use Rattle.bz_num.specs.Fold.{fold_from, fold_of}
use Rattle.bz_model.specs.Parting.{inner_cost, terms_in}
use Rattle.bz_model.specs.PointSums.{times_one, value_pairs}
use Rattle.bz_judge.proofs.value.value_sum.Given as goal

abbrev pub invariant-loop-eta : goal.invariant-loop-eta
invariant-loop-eta l = record {
  few : l.folding.count ≤ length l.master.x + l.eta-index;
  rest :
      fold_from l.folding.count l.folding.sum (map times_one (drop l.eta-index l.master.eta))
      ≡ fold_of (value_pairs (terms_in l.split.part 0 (inner_cost l.split.model)) l.master);
}
