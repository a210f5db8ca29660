-- What is left of the other row's entries, with what is behind them, is what was left of them all.
use Rattle.std.proofs.Common.{◌≡◌, ◌≤◌, ℕ, ℤ, drop, length}
use Rattle.bz_num.specs.Row.{IsSparse}
use Rattle.bz_num.specs.SparseSums.{AreAhead, sum_left}
use Rattle.bz_num.proofs.SparseSums.{rest_of}
use Rattle.bz_num.proofs.sparse_sums.fold_entries.Given as goal

abbrev pub invariant-loop-entry : goal.invariant-loop-entry
invariant-loop-entry l = record {
  inside : l.folding.count ≤ length l.row;
  sparse : IsSparse (drop l.entry-index l.other);
  left : (f g : ℕ → ℤ) → AreAhead l.other f g → sum_left l.row (rest_of (drop l.entry-index l.other) g) l.folding ≡ sum_left l.row f l.initial.folding;
}
