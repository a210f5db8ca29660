-- Which wide places the solution of a program may name.
use Rattle.std.specs.Prelude.{ℕ, ◌<◌, ◌≤◌, ◌≡◌, ◌≢◌, ◌⊎◌, ℤ, pos, ◌*ℤ◌, ◌≤ℤ◌, ◌<ℤ◌, Bool, true, List}
use Rattle.bz_algebra.specs.Tableaus.{Program, side, IsRow, equations_of, rows_of, with_factor}
use Rattle.bz_tableau.specs.Dense.{AreMultipliers, IsWideStep}
use Rattle.bz_tableau.specs.Laws.{place}
use Rattle.bz_tableau.specs.Programs.{program_of}
use Rattle.bz_tableau.specs.declared.answers.LpStop.{LpStop}
use Rattle.bz_tableau.specs.declared.answers.LpStop.TheVariants.{Wide, OutOfMemory}
use Rattle.bz_tableau.specs.declared.answers.WideAt.{WideAt}
use Rattle.bz_tableau.specs.declared.answers.WideAt.TheVariants.{Build, Pivot, Den, Fold}
use Rattle.bz_tableau.specs.declared.programs.Lp.{Lp}
use Rattle.bz_tableau.specs.Answers.{IsBasisList}
use Rattle.bz_tableau.specs.Points.{HasNoNegativeSide}
use Rattle.bz_tableau.specs.WidePlaces.{IsTrueDen}

-- a basis of the program without a negative right side
pub record IsPointBasis (relaxed : Bool) (p : Program) (basis : List ℕ) : Type 0 where
  pub is_basis : IsBasisList relaxed p basis
  pub right_sides : HasNoNegativeSide relaxed p (place basis)

-- v is the row at place i of the basis; the objective row stands at the place after the program's rows
abbrev pub IsRowAt : Bool → Program → List ℕ → ℕ → (ℕ → ℤ) → Type 0
IsRowAt relaxed p basis i v = IsRow (equations_of relaxed p) (with_factor relaxed p (place basis)) i v

-- ---- the wide number
-- The row can't be cleared in the column by the pivot row without a wide number: a product with what is left of their two
-- entries there, divided by their greatest common divisor, or the difference of two such products.
pub record IsWideClearing (relaxed : Bool) (p : Program) (basis : List ℕ) (row pivot_row column : ℕ) : Type 0 where
  pub row_inside : row ≤ p.rows
  pub pivot_inside : pivot_row < p.rows
  pub other : row ≢ pivot_row
  pub old : ℕ → ℤ
  pub is_old : IsRowAt relaxed p basis row old
  pub pivot : ℕ → ℤ
  pub is_pivot : IsRowAt relaxed p basis pivot_row pivot
  pub nonzero : pivot column ≢ pos 0
  pub kept : ℤ
  pub taken : ℤ
  pub multipliers : AreMultipliers (pivot column) (old column) kept taken
  pub at : ℕ
  pub at_inside : at ≤ side (equations_of relaxed p)
  pub wide : IsWideStep kept (old at) taken (pivot at)

-- ---- the three kinds of pivot
-- From the goal, a column enters in which the objective row is negative, and a row leaves that is positive there and has
-- the least right side per entry of all such rows.
pub record EntersAtGoal (relaxed : Bool) (p : Program) (basis goal : List ℕ) (pivot_row column : ℕ) : Type 0 where
  pub at_goal : basis ≡ goal
  pub falls : (v : ℕ → ℤ) → IsRowAt relaxed p basis p.rows v → (v column) <ℤ (pos 0)
  pub positive : (v : ℕ → ℤ) → IsRowAt relaxed p basis pivot_row v → (pos 0) <ℤ (v column)
  pub least : (i : ℕ) (v w : ℕ → ℤ) → i < p.rows → IsRowAt relaxed p basis i v → IsRowAt relaxed p basis pivot_row w
      → (pos 0) <ℤ (v column)
      → (w (side (equations_of relaxed p)) *ℤ v column) ≤ℤ (v (side (equations_of relaxed p)) *ℤ w column)

-- from the goal, the column s leaves, whose row has the right side 0
pub record LeavesWithZero (relaxed : Bool) (p : Program) (basis goal : List ℕ) (pivot_row : ℕ) : Type 0 where
  pub at_goal : basis ≡ goal
  pub is_relaxed : relaxed ≡ true
  pub of_s : place basis pivot_row ≡ p.columns
  pub zero : (v : ℕ → ℤ) → IsRowAt relaxed p basis pivot_row v → v (side (equations_of relaxed p)) ≡ pos 0

-- the column is a slack or stands in the goal
abbrev pub IsOnTheWay : Bool → Program → List ℕ → ℕ → Type 0
IsOnTheWay relaxed p goal j = ((rows_of relaxed p).slack ≤ j) ⊎ ((k : ℕ) × (k < p.rows) × (place goal k ≡ j))

-- on the way to the goal, the column and each basic one are slacks or stand in the goal
pub record GoesToGoal (relaxed : Bool) (p : Program) (basis goal : List ℕ) (column : ℕ) : Type 0 where
  pub entering : IsOnTheWay relaxed p goal column
  pub basic : (i : ℕ) → i < p.rows → IsOnTheWay relaxed p goal (place basis i)

-- ---- the places
-- the pivot that is named is one that a solution may make, and it goes wide there
pub record IsTruePivot (relaxed : Bool) (p : Program) (basis goal : List ℕ) (row pivot_row column : ℕ) : Type 0 where
  pub is_basis : IsBasisList relaxed p basis
  pub goal_is : IsPointBasis relaxed p goal
  pub column_inside : column < side (rows_of relaxed p)
  pub wide : IsWideClearing relaxed p basis row pivot_row column
  pub kind : EntersAtGoal relaxed p basis goal pivot_row column
      ⊎ (LeavesWithZero relaxed p basis goal pivot_row ⊎ GoesToGoal relaxed p basis goal column)

-- The place is wide, and a solution of the program may come there. It comes to no `Build`, since its right sides are
-- given, and to no `Fold`, since it makes no sums of its answer: these are told by who builds a program and who uses an
-- answer.
abbrev pub IsTrueWide : Lp → WideAt → Type 0
IsTrueWide lp (Build row) = ⊥
IsTrueWide lp (Pivot relaxed basis goal row pivot_row column) =
    IsTruePivot relaxed (program_of lp) basis goal row pivot_row column
IsTrueWide lp (Den relaxed basis at) = IsTrueDen relaxed (program_of lp) basis at
IsTrueWide lp (Fold relaxed basis column list at) = ⊥

-- the place is of the relaxed program
abbrev pub IsOfRelaxed : WideAt → Type 0
IsOfRelaxed (Build row) = ⊥
IsOfRelaxed (Pivot relaxed basis goal row pivot_row column) = relaxed ≡ true
IsOfRelaxed (Den relaxed basis at) = relaxed ≡ true
IsOfRelaxed (Fold relaxed basis column list at) = ⊥

-- why a program was not solved
abbrev pub IsTrueStop : Lp → LpStop → Type 0
IsTrueStop lp (Wide at) = IsTrueWide lp at
IsTrueStop lp OutOfMemory = Unit {0}

-- why a relaxed program was not solved
abbrev pub IsTrueRelaxedStop : Lp → LpStop → Type 0
IsTrueRelaxedStop lp (Wide at) = IsTrueWide lp at × IsOfRelaxed at
IsTrueRelaxedStop lp OutOfMemory = Unit {0}
