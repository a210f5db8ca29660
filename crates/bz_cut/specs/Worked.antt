-- The worked models of the tests: columns x, an integer, and y; one row `a x + y`; x in the master and y in block 1.
use Rattle.std.specs.Prelude.{ℤ, pos, ◌≡◌, List, [], ◌∷◌}
use Rattle.bz_model.specs.declared.Row.{Row}

-- one row of both columns, with `a` times the first
abbrev pub AreLinked : ℤ → List Row → Type 0
AreLinked a [] = ⊥
AreLinked a (row ∷ []) = row.terms ≡ (0, a) ∷ (1, pos 1) ∷ []
AreLinked a (row ∷ next ∷ rest) = ⊥
