-- Fractions in lowest terms.
use Rattle.std.specs.Prelude.{ℕ, ℤ, ◌≡◌, ◌*ℤ◌}
use Rattle.std.specs.Int.{◌∣◌}
use Rattle.std.specs.Int.RustNames.{unsigned_abs}
use Rattle.bz_num.specs.declared.fraction.Frac.{Frac}

-- the fraction is num / den, in lowest terms
pub record IsLowest (num den : ℤ) (f : Frac) : Type 0 where
  pub value : f.num *ℤ den ≡ num *ℤ f.den
  pub lowest : (k : ℕ) → k ∣ unsigned_abs f.num → k ∣ unsigned_abs f.den → k ≡ 1
