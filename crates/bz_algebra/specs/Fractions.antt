-- Fractions of whole numbers without limit.
use Rattle.std.specs.Prelude.{ℤ, pos, ◌≡◌, ◌*ℤ◌, ◌<ℤ◌}

-- the fraction num / den; what is said of it is said where den is positive
pub record Fraction : Type 0 where
  pub num : ℤ
  pub den : ℤ

-- the one fraction is less than the other: n / d < m / e is n e < m d
abbrev pub IsLess : Fraction → Fraction → Type 0
IsLess a b = (a.num *ℤ b.den) <ℤ (b.num *ℤ a.den)

-- the two fractions are one number
abbrev pub IsSameNumber : Fraction → Fraction → Type 0
IsSameNumber a b = a.num *ℤ b.den ≡ b.num *ℤ a.den

-- the whole number n as a fraction
abbrev pub whole : ℤ → Fraction
whole n = record { num = n; den = pos 1 }
