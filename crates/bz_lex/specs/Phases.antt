-- One phase of the lexicographic simplex: its columns that enter, its pivots, and what it comes to.
use Rattle.std.specs.Prelude.{ℕ, suc, ◌<◌, ◌≤◌, ◌≡◌, pos, ◌≤ℤ◌, ◌<ℤ◌, Bool, true, List, [], ◌∷◌, length, map, unsigned_abs, Option, MatchOption}
use Rattle.bz_algebra.specs.Tableaus.{Equations, NoTwoAlike}
use Rattle.bz_tableau.specs.Pivots.{IsPivoted}
use Rattle.bz_tableau.specs.Tables.{Table, IsTableOf, IsTableauOf, own, factor_column, shown}
use Rattle.bz_tableau.specs.declared.answers.LpStop.{LpStop}
use Rattle.bz_tableau.specs.declared.programs.Lp.{Lp}
use Rattle.bz_lex.specs.Refusals.{IsFirstStop, IsFirstRelaxedStop}
use Rattle.bz_lex.specs.Lexicographic.{IsAbove, AreLevel, IsLeaving}
use Rattle.bz_lex.specs.Shown.{HasPoint, HasLeastCost, IsFreeFall}
use Rattle.bz_lex.specs.TableStages.{shown_order, IsLeavingRow, IsTableStage}
use Rattle.bz_lex.specs.declared.phase.PhaseEnd.{PhaseEnd}
use Rattle.bz_lex.specs.declared.phase.PhaseEnd.TheVariants.{Least, Falls}

-- ---- the column that enters
-- a column, not the factor column, in which the objective row is negative
pub record IsEntering (t : Table) (column : ℕ) : Type 0 where
  pub inside : column < factor_column t
  pub falls : (shown t (length t.basis) column) <ℤ (pos 0)

-- the greatest size of the numbers of certain rows in the column
pub record IsGreatestOf (t : Table) (column : ℕ) (Counts : ℕ → Type 0) (size : ℕ) : Type 0 where
  pub row : ℕ
  pub counts : Counts row
  pub reached : unsigned_abs (shown t row column) ≡ size
  pub greatest : (i : ℕ) → Counts i → unsigned_abs (shown t i column) ≤ size

-- the greatest size of a number of the column, the objective row's among them
abbrev pub IsGreatestSize : Table → ℕ → ℕ → Type 0
IsGreatestSize t column size = IsGreatestOf t column (λ i. i ≤ length t.basis) size

-- the column may enter, none that may has a lesser greatest size, and none before it has the same
pub record IsChosen (t : Table) (column : ℕ) : Type 0 where
  pub entering : IsEntering t column
  pub least : (size other_column other : ℕ) → IsGreatestSize t column size → IsEntering t other_column → IsGreatestSize t other_column other → size ≤ other
  pub first : (size other_column other : ℕ) → IsGreatestSize t column size → IsEntering t other_column → IsGreatestSize t other_column other → other_column < column → size < other

-- of the first m columns this one, with this greatest size, is chosen
pub record IsChosenOf (m : ℕ) (t : Table) (column size : ℕ) : Type 0 where
  pub entering : IsEntering t column
  pub size_is : IsGreatestSize t column size
  pub least : (j other : ℕ) → j < m → IsEntering t j → IsGreatestSize t j other → size ≤ other
  pub first : (j other : ℕ) → j < column → IsEntering t j → IsGreatestSize t j other → size < other

-- the choice of the first m columns, with its greatest size, or none of them may enter
abbrev pub IsChoiceOf : ℕ → Table → Option (ℕ × ℕ) → Type 0
IsChoiceOf m t choice = MatchOption choice ((j : ℕ) → j < m → IsEntering t j → ⊥) (λ c. IsChosenOf m t c.0 c.1)

-- ---- the row that leaves
-- the table is on the way of a phase that began at the basis `first`
pub record IsOnPhase (first : List ℕ) (t : Table) : Type 0 where
  pub system : Equations
  pub met : List (ℕ → ℕ)
  pub stage : IsTableStage system first t met

-- row i is above row k in the order of the phase, each divided by its number in the column
abbrev pub IsRowAbove : Table → List ℕ → ℕ → ℕ → ℕ → Type 0
IsRowAbove t first column i k = IsAbove (suc (length t.basis)) (shown_order t first) column (shown t i) (shown t k)

-- neither is above the other
abbrev pub AreRowsLevel : Table → List ℕ → ℕ → ℕ → ℕ → Type 0
AreRowsLevel t first column i k = AreLevel (suc (length t.basis)) (shown_order t first) column (shown t i) (shown t k)

-- of the first m rows this one leaves where the column enters, or none of them is positive there
abbrev pub LeavesOf : ℕ → Table → List ℕ → ℕ → Option ℕ → Type 0
LeavesOf m t first column found = MatchOption found ((i : ℕ) → i < m → (shown t i column) ≤ℤ (pos 0)) (λ r. IsLeaving m (suc (length t.basis)) (shown_order t first) (shown t) column r)

-- ---- turns
-- new is the table after the pivot of a phase: a column enters in which the objective row is negative, and the leaving row makes place
pub record IsPhasePivot (first : List ℕ) (old new : Table) : Type 0 where
  pub row : ℕ
  pub column : ℕ
  pub entering : IsEntering old column
  pub leaving : IsLeavingRow old first column row
  pub pivoted : IsPivoted old row column new

-- the tables left on the way of a phase from old to new, the last first: each next one is after a pivot of the phase
abbrev pub IsPhaseWay : List ℕ → Table → Table → List Table → Type 0
IsPhaseWay first old new [] = new ≡ old
IsPhaseWay first old new (last ∷ left) = IsPhaseWay first old last left × IsPhasePivot first last new

-- the columns of a table's places
abbrev pub columns_of : Table → ℕ → ℕ
columns_of t = own t.slack t.basis

-- new is reached from old by pivots of the phase that began at old, and of all the tables met, old and new among them, no two have the same columns in their bases
pub record MeetsNoBasisTwice (old new : Table) : Type 0 where
  pub left : List Table
  pub way : IsPhaseWay old.basis old new left
  pub different : NoTwoAlike (length old.basis) (map columns_of (new ∷ left))

-- what a phase comes to at its last table: no number of the objective row is negative, or it falls freely in a column
abbrev pub IsPhaseEnd : Table → PhaseEnd → Type 0
IsPhaseEnd t Least = HasLeastCost t
IsPhaseEnd t (Falls column) = IsFreeFall t column

-- the table is one of the same equations, and it has a point
pub record IsPhaseTable (old new : Table) : Type 0 where
  pub relaxed : new.relaxed ≡ old.relaxed
  pub slack : new.slack ≡ old.slack
  pub count : length new.basis ≡ length old.basis
  pub table : (s : Equations) → IsTableOf s old.slack old.basis old.rows → IsTableOf s new.slack new.basis new.rows
  pub point : HasPoint new

-- why a phase stopped, in each program of which the table is the tableau
pub record IsPhaseStop (t : Table) (stop : LpStop) : Type 0 where
  pub is_true : (relaxed : Bool) (lp : Lp) → IsTableauOf relaxed lp t → IsFirstStop lp stop
  pub is_relaxed : (lp : Lp) → IsTableauOf true lp t → IsFirstRelaxedStop lp stop
