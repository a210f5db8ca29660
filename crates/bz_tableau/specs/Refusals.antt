-- What a refused pivot says.
use Rattle.std.specs.Prelude.{ℕ, ◌≡◌, Bool, List}
use Rattle.bz_tableau.specs.declared.answers.LpStop.{LpStop}
use Rattle.bz_tableau.specs.declared.answers.LpStop.TheVariants.{Wide, OutOfMemory}
use Rattle.bz_tableau.specs.declared.answers.WideAt.{WideAt}
use Rattle.bz_tableau.specs.declared.answers.WideAt.TheVariants.{Build, Pivot, Den, Fold}
use Rattle.bz_tableau.specs.Pivots.{IsFirstWideRow}
use Rattle.bz_tableau.specs.Tables.{Table}

-- a refusal names the pivot and its first wide row, with its own basis as the goal
pub record NamesPivot (t : Table) (r e : ℕ) (relaxed : Bool) (basis goal : List ℕ) (row pivot_row column : ℕ) : Type 0 where
  pub relaxed_is : relaxed ≡ t.relaxed
  pub basis_is : basis ≡ t.basis
  pub goal_is : goal ≡ t.basis
  pub pivot_row_is : pivot_row ≡ r
  pub column_is : column ≡ e
  pub wide : IsFirstWideRow t.rows r e row

abbrev pub IsWidePivot : Table → ℕ → ℕ → WideAt → Type 0
IsWidePivot t r e (Build row) = ⊥
IsWidePivot t r e (Pivot relaxed basis goal row pivot_row column) =
    NamesPivot t r e relaxed basis goal row pivot_row column
IsWidePivot t r e (Den relaxed basis at) = ⊥
IsWidePivot t r e (Fold relaxed basis column list at) = ⊥

-- why the pivot at place r in the column e was refused: a row is wide, or memory was wanting
abbrev pub IsRefusal : Table → ℕ → ℕ → LpStop → Type 0
IsRefusal t r e (Wide at) = IsWidePivot t r e at
IsRefusal t r e OutOfMemory = Unit {0}
