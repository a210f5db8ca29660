-- Tableaus as lists: a row of numbers for each row of the program, and the objective row after them.
--
-- The columns of a row, by number: the program's own columns, s where it is relaxed, the slacks, the factor column, the right side. The factor column has how often a row takes the cost: d in the objective row, 0 in the others.
use Rattle.std.specs.Prelude.{ℕ, suc, ◌+◌, ◌<◌, ◌^◌, ◌≡◌, ◌==◌, if◌then◌else◌, ℤ, Bool, List, [], length, slice_index_or}
use Rattle.bz_algebra.specs.Tableaus.{Equations, side, IsTableau}
use Rattle.bz_tableau.specs.declared.programs.Lp.{Lp}
use Rattle.bz_tableau.specs.Dense.{entry}
use Rattle.bz_tableau.specs.Programs.{lp_equations}

-- a tableau
pub record Table : Type 0 where
  -- whether its program is relaxed
  pub relaxed : Bool
  -- the number of the first slack
  pub slack : ℕ
  -- the column of each row
  pub basis : List ℕ
  -- the rows, the objective's the last
  pub rows : List (List ℤ)

-- a row of a list, empty past the last
abbrev pub line : List (List ℤ) → ℕ → List ℤ
line rows i = slice_index_or rows i []

-- the number of a row in a column
abbrev pub number : List (List ℤ) → ℕ → ℕ → ℤ
number rows i j = entry (line rows i) j

-- the column of a row of the program, and the factor column for the objective row
abbrev pub own : ℕ → List ℕ → ℕ → ℕ
own slack basis i = if i == length basis then slack + length basis else slice_index_or basis i 0

-- the rows are the tableau of the basis in the equations
pub record IsTableOf (s : Equations) (slack : ℕ) (basis : List ℕ) (rows : List (List ℤ)) : Type 0 where
  pub slack_is : s.slack ≡ slack
  pub count : s.rows ≡ suc (length basis)
  pub lines : length rows ≡ suc (length basis)
  pub widths : (i : ℕ) → i < length rows → length (line rows i) ≡ suc (side s)
  pub tableau : IsTableau s (own slack basis) (number rows)

-- the rows are the tableau of the basis in some equations, and the columns have small numbers
pub record IsSound (slack : ℕ) (basis : List ℕ) (rows : List (List ℤ)) : Type 0 where
  pub small : slack + length basis < 2 ^ 31
  pub system : Equations
  pub table : IsTableOf system slack basis rows

-- the table is the tableau of its basis in the program, relaxed as said
pub record IsTableauOf (relaxed : Bool) (lp : Lp) (t : Table) : Type 0 where
  pub relaxed_is : t.relaxed ≡ relaxed
  pub table : IsTableOf (lp_equations relaxed lp) t.slack t.basis t.rows

-- the number of the factor column; callers count the right side there
abbrev pub factor_column : Table → ℕ
factor_column t = t.slack + length t.basis

-- the number that `entry` shows: callers count the right side as the column after the slacks
abbrev pub shown : Table → ℕ → ℕ → ℤ
shown t i j = number t.rows i (if j == factor_column t then suc j else j)
