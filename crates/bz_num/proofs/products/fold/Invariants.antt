-- What is folded, with what is still to come, is the fold of the whole.
use Rattle.std.proofs.Common.{◌≡◌, drop}
use Rattle.bz_num.specs.Fold.{fold_of, fold_from}
use Rattle.bz_num.proofs.products.fold.Given as goal

abbrev pub invariant-loop-a : goal.invariant-loop-a
invariant-loop-a l = record {
  counted : l.folding.count ≡ l.a-index;
  rest : fold_from l.folding.count l.folding.sum (drop l.a-index l.pairs) ≡ fold_of l.pairs;
}
