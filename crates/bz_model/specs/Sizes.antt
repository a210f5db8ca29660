-- How many inequalities rows and columns give a part, as sums.
use Rattle.std.specs.Prelude.{ℕ, ◌==◌, ◌+◌, List, [], ◌∷◌, length, if◌then◌else◌}
use Rattle.bz_model.specs.declared.records.Column.{Column}
use Rattle.bz_model.specs.declared.records.Row.{Row}
use Rattle.bz_model.specs.Parting.{home_of, sides_of_row}
use Rattle.bz_model.specs.PartLists.{bounds_at}

-- the sum of a number of each item
abbrev pub sum_of : {X : Type 0} → (X → ℕ) → List X → ℕ
sum_of f [] = 0
sum_of f (x ∷ xs) = f x + sum_of f xs

-- how many inequalities of part b a row gives
abbrev pub row_size : List ℕ → ℕ → Row → ℕ
row_size part b row = (if home_of part row.terms == b then length (sides_of_row part b row) else 0)

-- how many inequalities of part b a column gives, and how many sides of the master's box where it is an integer
abbrev pub column_size : List ℕ → ℕ → ℕ × Column → ℕ
column_size part b e = length (bounds_at part e b) + (if b == 0 then (if e.1.integer then 2 else 0) else 0)
