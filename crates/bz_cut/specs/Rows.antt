-- Multipliers of inequalities.
use Rattle.std.specs.Prelude.{ℕ, ℤ, pos, ◌<◌, ◌<ℤ◌, List}
use Rattle.std.specs.List.{AllByRecursion}
pub use Rattle.bz_model.specs.Rows.{own_at, master_at, rhs_at}

-- multipliers of a list of `count` inequalities: positive, at places of the list
abbrev pub AreMultipliers : ℕ → List (ℕ × ℤ) → Type 0
AreMultipliers count multipliers = AllByRecursion (λ e. (e.0 < count) × (pos 0 <ℤ e.1)) multipliers
