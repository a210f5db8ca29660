-- What is folded, with what is still to come, is the sum of the whole.
use Rattle.std.proofs.Common.{◌≡◌, ◌+◌, drop}
use Rattle.bz_num.specs.Fold.{fold_from, pairs_at}
use Rattle.bz_num.proofs.sparse_sums.fold_rest.Given as goal

abbrev pub invariant-loop-entry : goal.invariant-loop-entry
invariant-loop-entry g l = record {
  counted : l.folding.count ≡ l.initial.folding.count + l.entry-index;
  rest : fold_from l.folding.count l.folding.sum (pairs_at (drop l.entry-index l.rest) (g.N.Numbers.at l.numbers)) ≡ fold_from l.initial.folding.count l.initial.folding.sum (pairs_at l.rest (g.N.Numbers.at l.numbers));
}
