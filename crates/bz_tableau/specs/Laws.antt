-- What the rows of a tableau are, in the program's own words.
use Rattle.std.specs.Prelude.{ℕ, ◌+◌, ◌<◌, ◌≡◌, Bool, List, length, slice_index_or}
use Rattle.bz_algebra.specs.Tableaus.{IsRow, IsBasis, IsTableau, IsObjectiveRow, rows_of, with_factor, factor}
use Rattle.bz_tableau.specs.declared.programs.Lp.{Lp}
use Rattle.bz_tableau.specs.Programs.{program_of, lp_equations}
use Rattle.bz_tableau.specs.Tables.{Table, number, shown}

-- the column at a place of the basis; of a list of places, the place at a number
abbrev pub place : List ℕ → ℕ → ℕ
place basis i = slice_index_or basis i 0

pub record HasRowsOfBasis (relaxed : Bool) (lp : Lp) (t : Table) : Type 0 where
  pub slack : t.slack ≡ (lp_equations relaxed lp).slack
  pub count : length t.basis ≡ length lp.rows
  -- the columns are a basis of the program
  pub basis : IsBasis (rows_of relaxed (program_of lp)) (place t.basis)
  -- each row that is shown is the row of its basic column
  pub rows : (i : ℕ) → i < length lp.rows → IsRow (rows_of relaxed (program_of lp)) (place t.basis) i (shown t i)
  -- the row after them is the objective row: its factor is d, and its numbers in the slacks are y
  pub objective : IsObjectiveRow relaxed (program_of lp) (place t.basis)
      (number t.rows (length lp.rows) (factor relaxed (program_of lp)))
      (λ i. number t.rows (length lp.rows) ((lp_equations relaxed lp).slack + i))
  -- with the factor column the rows are the tableau of the equations
  pub tableau : IsTableau (lp_equations relaxed lp)
      (with_factor relaxed (program_of lp) (place t.basis)) (number t.rows)
