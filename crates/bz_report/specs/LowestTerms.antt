-- Fractions in lowest terms, as they are printed.
use Rattle.std.specs.Prelude.{ℕ, zero, suc, ◌≡◌, ◌%◌, ◌==◌, ◌&&◌, Bool, cond, pos, ◌<ℤ◌}
use Rattle.std.specs.Int.RustNames.{int_div, unsigned_abs}
use Rattle.bz_algebra.specs.Fractions.{Fraction, IsSameNumber}
use Rattle.bz_model.specs.Stated.{IsReduced}

-- whether k divides both numbers
abbrev pub divides_both : ℕ → ℕ → ℕ → Bool
divides_both k a b = (a % k == 0) && (b % k == 0)

-- the greatest number up to n that divides both; 1 always does
abbrev pub greatest_divisor : ℕ → ℕ → ℕ → ℕ
greatest_divisor a b zero = 1
greatest_divisor a b (suc n) = cond (divides_both (suc n) a b) (suc n) (greatest_divisor a b n)

-- the greatest number that divides a fraction's numerator and denominator: none is above the denominator
unfoldable pub common_divisor : Fraction → ℕ
common_divisor f = greatest_divisor (unsigned_abs f.num) (unsigned_abs f.den) (unsigned_abs f.den)

-- the fraction with both numbers divided by that
unfoldable pub lowest : Fraction → Fraction
lowest f = record {
  num = int_div f.num (pos (common_divisor f));
  den = int_div f.den (pos (common_divisor f));
}

-- the one fraction is the other in lowest terms
pub record IsLowestOf (f low : Fraction) : Type 0 where
  pub reduced : IsReduced low
  pub same : IsSameNumber low f

-- A fraction over a positive denominator has exactly one form in lowest terms, and that is what is printed.
abbrev pub LowestTermsAreOne : Type 0
LowestTermsAreOne =
    (f : Fraction) → pos 0 <ℤ f.den → IsLowestOf f (lowest f) × ((low : Fraction) → IsLowestOf f low → low ≡ lowest f)
