-- What is proved of the rows that numbers make.
use Rattle.std.specs.Prelude.{ℕ, ◌≡◌, ℤ, List}
use Rattle.bz_std.specs.CutsFrom.{AreEntries}

-- only one row has the n numbers of y
abbrev pub EntriesAreUnique : Type 0
EntriesAreUnique = (n : ℕ) (y : ℕ → ℤ) (a b : List (ℕ × ℤ)) → AreEntries n y a → AreEntries n y b → a ≡ b
