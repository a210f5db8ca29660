-- The worked model of the tests: columns x, an integer, and y; one row x + y; x in the master and y in block 1.
use Rattle.std.specs.Prelude.{pos, ◌≡◌, IsTrue, IsFalse, List, [], ◌∷◌, IsSome}
use Rattle.bz_model.specs.declared.records.Column.{Column}
use Rattle.bz_model.specs.declared.records.Row.{Row}

-- an integer column with two bounds, and one that is no integer
abbrev pub AreWorkedColumns : List Column → Type 0
AreWorkedColumns [] = ⊥
AreWorkedColumns (x ∷ []) = ⊥
AreWorkedColumns (x ∷ y ∷ []) = IsTrue x.integer × IsSome x.lower × IsSome x.upper × IsFalse y.integer
AreWorkedColumns (x ∷ y ∷ z ∷ rest) = ⊥

-- one row of both columns
abbrev pub AreWorkedRows : List Row → Type 0
AreWorkedRows [] = ⊥
AreWorkedRows (row ∷ []) = row.terms ≡ (0, pos 1) ∷ (1, pos 1) ∷ []
AreWorkedRows (row ∷ next ∷ rest) = ⊥
