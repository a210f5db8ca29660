-- Pivots on the way to a basis: the row in which the column s of a relaxed program enters, and the columns of a goal.
use Rattle.std.specs.Prelude.{ℕ, ◌<◌, ◌≡◌, ◌≢◌, ◌⊎◌, ℤ, pos, ◌≤ℤ◌, ◌<ℤ◌, Bool, List, length, Option, MatchOption}
use Rattle.bz_tableau.specs.Laws.{place}
use Rattle.bz_tableau.specs.Pivots.{IsFirstWideRow, IsPivoted}
use Rattle.bz_tableau.specs.Tables.{Table, factor_column, shown}
use Rattle.bz_tableau.specs.declared.answers.LpStop.{LpStop}
use Rattle.bz_tableau.specs.declared.answers.LpStop.TheVariants.{Wide, OutOfMemory}
use Rattle.bz_tableau.specs.declared.answers.WideAt.{WideAt}
use Rattle.bz_tableau.specs.declared.answers.WideAt.TheVariants.{Build, Pivot, Den, Fold}
use Rattle.bz_lex.specs.Renumbering.{unrelaxed}

-- ---- the least right side
abbrev pub right_side : Table → ℕ → ℤ
right_side t i = shown t i (factor_column t)

-- of the first n rows, r is the first of those with the least right side, and that is negative
pub record IsLeastRightTo (n : ℕ) (t : Table) (r : ℕ) : Type 0 where
  pub inside : r < n
  pub negative : (right_side t r) <ℤ (pos 0)
  pub least : (i : ℕ) → i < n → (right_side t r) ≤ℤ (right_side t i)
  pub first : (i : ℕ) → i < r → (right_side t r) <ℤ (right_side t i)

-- none of the first n right sides is negative, or this is the row of the least
abbrev pub LeastRightTo : ℕ → Table → Option ℕ → Type 0
LeastRightTo n t least = MatchOption least ((i : ℕ) → i < n → (pos 0) ≤ℤ (right_side t i)) (λ r. IsLeastRightTo n t r)

-- ---- towards a goal
-- the column stands in the goal, and the row has an entry there
pub record IsEntryIn (t : Table) (r : ℕ) (goal : List ℕ) (column : ℕ) : Type 0 where
  pub at : ℕ
  pub inside : at < length goal
  pub column_is : place goal at ≡ column
  pub nonzero : shown t r column ≢ pos 0

-- the row has no entry in a column of the goal
abbrev pub HasNoEntryIn : Table → ℕ → List ℕ → Type 0
HasNoEntryIn t r goal = (k : ℕ) → k < length goal → shown t r (place goal k) ≡ pos 0

-- the column stands in the goal
abbrev pub StandsIn : List ℕ → ℕ → Type 0
StandsIn goal column = (k : ℕ) × (k < length goal) × (place goal k ≡ column)

-- the row stays, since its column stands in the goal, or since it has no entry in the goal
abbrev pub Stays : Table → ℕ → List ℕ → Type 0
Stays t r goal = StandsIn goal (place t.basis r) ⊎ HasNoEntryIn t r goal

-- the column takes the row's place: the row's own column isn't in the goal, and this one is, with an entry in the row
pub record TakesPlace (t : Table) (r : ℕ) (goal : List ℕ) (column : ℕ) : Type 0 where
  pub away : StandsIn goal (place t.basis r) → ⊥
  pub enters : IsEntryIn t r goal column

-- new is the table itself, where its row stays, or the table after a pivot in the row on a column that takes its place
abbrev pub IsBrought : Table → ℕ → List ℕ → Table → Type 0
IsBrought t r goal new = ((new ≡ t) × Stays t r goal) ⊎ ((column : ℕ) × TakesPlace t r goal column × IsPivoted t r column new)

-- ---- refusals that name a goal
-- a refusal names the pivot and its first wide row, on the way to the goal
pub record NamesWay (t : Table) (r e : ℕ) (goal : List ℕ) (relaxed : Bool) (basis named : List ℕ) (row pivot_row column : ℕ) : Type 0 where
  pub relaxed_is : relaxed ≡ t.relaxed
  pub basis_is : basis ≡ t.basis
  pub goal_is : named ≡ goal
  pub pivot_row_is : pivot_row ≡ r
  pub column_is : column ≡ e
  pub wide : IsFirstWideRow t.rows r e row

abbrev pub IsWideWay : Table → ℕ → ℕ → List ℕ → WideAt → Type 0
IsWideWay t r e goal (Build row) = ⊥
IsWideWay t r e goal (Pivot relaxed basis named row pivot_row column) = NamesWay t r e goal relaxed basis named row pivot_row column
IsWideWay t r e goal (Den relaxed basis at) = ⊥
IsWideWay t r e goal (Fold relaxed basis column list at) = ⊥

-- why the pivot at place r in the column e, on the way to the goal, was refused: a row is wide, or memory was wanting
abbrev pub IsWayRefusal : Table → ℕ → ℕ → List ℕ → LpStop → Type 0
IsWayRefusal t r e goal (Wide at) = IsWideWay t r e goal at
IsWayRefusal t r e goal OutOfMemory = Unit {0}

-- why the row was not brought to the goal
pub record IsRefusedWay (t : Table) (r : ℕ) (goal : List ℕ) (stop : LpStop) : Type 0 where
  pub column : ℕ
  pub takes : TakesPlace t r goal column
  pub refusal : IsWayRefusal t r column goal stop

-- ---- out of a column
-- the row has an entry in the column, which isn't the other one
pub record IsOtherEntry (t : Table) (r other column : ℕ) : Type 0 where
  pub inside : column < factor_column t
  pub different : column ≢ other
  pub nonzero : shown t r column ≢ pos 0

abbrev pub HasNoOtherEntry : Table → ℕ → ℕ → Type 0
HasNoOtherEntry t r other = (j : ℕ) → IsOtherEntry t r other j → ⊥

-- ---- numbers of the program itself
-- the columns of the basis, none of which is s, by their numbers in the program
pub record IsRenumbered (s : ℕ) (basis goal : List ℕ) : Type 0 where
  pub count : length goal ≡ length basis
  pub numbers : (i : ℕ) → i < length basis → place goal i ≡ unrelaxed s (place basis i)
