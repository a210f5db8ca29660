-- The divisor of what is done, with what is still to come, is the divisor of all.
use Rattle.std.proofs.Common.{ℕ, drop, pos, ◌≤ℤ◌}
use Rattle.bz_algebra.specs.Numbers.{IsNarrow}
use Rattle.bz_num.specs.Primitive.{IsRowGcd}
use Rattle.bz_num.proofs.reduce.row_divisor.Given as goal

abbrev pub invariant-loop-entry : goal.invariant-loop-entry
invariant-loop-entry l = record {
  kept : (g : ℕ) → IsRowGcd g (drop l.entry-index l.entries) l.divisor → IsRowGcd g l.fn.entries l.fn.rhs;
  sign : pos 0 ≤ℤ l.divisor;
  narrow : IsNarrow l.divisor;
}
