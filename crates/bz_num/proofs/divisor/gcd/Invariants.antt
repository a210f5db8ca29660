-- Euclid's steps keep the common divisors.
use Rattle.std.proofs.Common.{ℕ, ◌<◌, ◌^◌}
use Rattle.std.specs.Int.{IsGcd}
use Rattle.std.specs.Int.RustNames.{unsigned_abs}
use Rattle.bz_num.proofs.divisor.gcd.Given as goal

abbrev pub invariant-loop-y : goal.invariant-loop-y
invariant-loop-y l = record {
  kept : (g : ℕ) → IsGcd l.x l.y g → IsGcd (unsigned_abs l.fn.a) (unsigned_abs l.fn.b) g;
  narrow_x : l.x < 2 ^ 127;
  narrow_y : l.y < 2 ^ 127;
}

abbrev pub decreases-loop-y : goal.decreases-loop-y
decreases-loop-y l = l.y
