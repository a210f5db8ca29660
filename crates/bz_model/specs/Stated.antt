-- The objective that a value states, as a fraction in lowest terms.
use Rattle.std.specs.Prelude.{ℕ, ℤ, pos, ◌≡◌, ◌*◌, ◌+ℤ◌, ◌*ℤ◌, ◌<ℤ◌, if◌then◌else◌}
use Rattle.std.specs.Int.RustNames.{unsigned_abs}
use Rattle.std.proofs.Math.IntN.{neg_ℤ}
use Rattle.bz_algebra.specs.Fractions.{Fraction}
use Rattle.bz_model.specs.declared.records.Model.{Model}
use Rattle.bz_model.specs.declared.stated.Stated.{Stated}

-- the objective where the inner cost is value / den: with the model's sign, constant and scale
abbrev pub objective_of : Model → ℤ → ℤ → Fraction
objective_of m value den = record {
  num = (if m.maximise then neg_ℤ value else value) +ℤ (m.constant *ℤ den);
  den = m.scale *ℤ den;
}

-- no number but 1 divides both
abbrev pub AreCoprime : ℕ → ℕ → Type 0
AreCoprime a b = (k i j : ℕ) → a ≡ k * i → b ≡ k * j → k ≡ 1

-- the fraction is in lowest terms
pub record IsReduced (f : Fraction) : Type 0 where
  pub positive : pos 0 <ℤ f.den
  pub coprime : AreCoprime (unsigned_abs f.num) (unsigned_abs f.den)

-- a stated objective as a fraction
abbrev pub stated_fraction : Stated → Fraction
stated_fraction s = record { num = s.num; den = s.den }
