-- What is folded, with what is still to come, is the sum of the whole.
use Rattle.std.proofs.Common.{◌≡◌, drop}
use Rattle.bz_num.specs.Fold.{fold_from, fold_of}
use Rattle.bz_model.specs.Parting.{inner_cost}
use Rattle.bz_model.specs.PointSums.{row_pairs}
use Rattle.bz_judge.proofs.RayCosts.{turned}
use Rattle.bz_judge.proofs.ray.ray_cost.Given as goal

abbrev pub invariant-loop-entry : goal.invariant-loop-entry
invariant-loop-entry l = record {
  counted : l.folding.count ≡ l.entry-index;
  rest : fold_from l.folding.count l.folding.sum (row_pairs (turned l.model.maximise (drop l.entry-index l.model.cost)) l.ray) ≡ fold_of (row_pairs (inner_cost l.model) l.ray);
}
