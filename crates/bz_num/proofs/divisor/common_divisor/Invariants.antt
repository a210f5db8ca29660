-- The divisor of the numbers so far.
use Rattle.std.proofs.Common.{pos, ◌≤ℤ◌}
use Rattle.std.specs.Int.RustNames.{unsigned_abs}
use Rattle.bz_algebra.specs.Numbers.{IsNarrow}
use Rattle.bz_num.proofs.DenseRows.{IsDivisorTo}
use Rattle.bz_num.proofs.divisor.common_divisor.Given as goal

abbrev pub invariant-loop-number : goal.invariant-loop-number
invariant-loop-number l = record {
  divisor : IsDivisorTo l.number-index (unsigned_abs l.divisor) l.row;
  sign : pos 0 ≤ℤ l.divisor;
  narrow : IsNarrow l.divisor;
}
