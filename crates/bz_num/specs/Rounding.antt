-- Fractions rounded to whole numbers.
use Rattle.std.specs.Prelude.{ℤ, pos, ◌*ℤ◌, ◌-ℤ◌, ◌+ℤ◌, ◌<ℤ◌, ◌≤ℤ◌}
use Rattle.bz_num.specs.declared.fraction.Frac.{Frac}

-- n is the greatest whole number that is at most the fraction
pub record IsFloor (f : Frac) (n : ℤ) : Type 0 where
  pub at_most : (n *ℤ f.den) ≤ℤ f.num
  pub greatest : f.num <ℤ ((n +ℤ pos 1) *ℤ f.den)

-- n is the least whole number that is at least the fraction
pub record IsCeiling (f : Frac) (n : ℤ) : Type 0 where
  pub at_least : f.num ≤ℤ (n *ℤ f.den)
  pub least : ((n -ℤ pos 1) *ℤ f.den) <ℤ f.num
