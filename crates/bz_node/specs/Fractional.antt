-- The first integer column whose number isn't whole.
use Rattle.std.specs.Prelude.{ℕ, ℤ, List, Option, Some, None}
use Rattle.std.specs.List.{AllByRecursion}
use Rattle.bz_model.specs.Points.{IsWhole}
use Rattle.bz_event.specs.Nodes.{IsFirstFractional}

-- the first of the positions whose number v / den isn't whole, where there is one
abbrev pub FindsFractional : List ℕ → (ℕ → ℤ) → ℤ → Option ℕ → Type 0
FindsFractional positions v den (Some position) = IsFirstFractional positions v den position
FindsFractional positions v den None = AllByRecursion (λ p. IsWhole (v p) den) positions
