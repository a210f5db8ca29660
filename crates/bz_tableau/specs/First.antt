-- The rows of the slacks: the program's own rows, and its objective.
use Rattle.std.specs.Prelude.{ℕ, suc, ◌+◌, ◌<◌, ◌≡◌, ◌==◌, if◌then◌else◌, nat_lt, ℤ, pos, List, length}
use Rattle.bz_algebra.specs.Tableaus.{Equations, side}
use Rattle.bz_tableau.specs.Dense.{entry}
use Rattle.bz_tableau.specs.Tables.{line}

-- the number of row i of the equations in a column: 1 in its own slack and 0 in the others
abbrev pub first_number : Equations → ℕ → ℕ → ℤ
first_number s i j = if nat_lt j s.slack then s.entry i j else (if j == side s then s.right i else (if j == s.slack + i then pos 1 else pos 0))

-- the first numbers of row i are there
pub record IsFirstLineTo (n : ℕ) (s : Equations) (i : ℕ) (row : List ℤ) : Type 0 where
  pub width : length row ≡ n
  pub numbers : (j : ℕ) → j < n → entry row j ≡ first_number s i j

-- the rows are those of the equations
pub record AreFirstLinesTo (n : ℕ) (s : Equations) (rows : List (List ℤ)) : Type 0 where
  pub count : length rows ≡ n
  pub each : (i : ℕ) → i < n → IsFirstLineTo (suc (side s)) s i (line rows i)
