-- What is folded, with what is still to come, is the sum of the whole.
use Rattle.std.proofs.Common.{◌≡◌, drop}
use Rattle.bz_num.specs.Fold.{fold_from, fold_of, pairs_at}
use Rattle.bz_num.proofs.sums.sum_at.Given as goal

abbrev pub invariant-loop-entry : goal.invariant-loop-entry
invariant-loop-entry g l = record {
  counted : l.folding.count ≡ l.entry-index;
  rest : fold_from l.folding.count l.folding.sum (pairs_at (drop l.entry-index l.row) (g.N.Numbers.at l.numbers)) ≡ fold_of (pairs_at l.row (g.N.Numbers.at l.numbers));
}
