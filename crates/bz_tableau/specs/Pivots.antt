-- What a pivot makes of a table.
use Rattle.std.specs.Prelude.{ℕ, ◌<◌, ◌≡◌, ◌≢◌, ℤ, List, [], ◌∷◌, length, slice_set, Option, Some, None}
use Rattle.bz_algebra.specs.Tableaus.{Equations, IsPivot, Made}
use Rattle.bz_tableau.specs.Dense.{entry, IsWideRow, IsNextLine, IsMovedLine}
use Rattle.bz_tableau.specs.declared.next.Turned.{Turned}
use Rattle.bz_tableau.specs.declared.next.Turned.TheVariants.{Kept, New, Wide}
use Rattle.bz_tableau.specs.Tables.{Table, line, number, own, IsTableOf}

-- row i, which isn't the pivot row, can't be cleared without a wide number
pub record IsWideLine (rows : List (List ℤ)) (r e i : ℕ) : Type 0 where
  pub other : i ≢ r
  pub wide : IsWideRow (line rows r) (line rows i) e

-- row i, which isn't the pivot row, is the first that can't be cleared without a wide number. The objective row is the last; its number in the factor column counts like the others
pub record IsFirstWideRow (rows : List (List ℤ)) (r e i : ℕ) : Type 0 where
  pub inside : i < length rows
  pub other : i ≢ r
  pub here : IsWideRow (line rows r) (line rows i) e
  pub first : (k : ℕ) → k < i → k ≢ r → IsWideRow (line rows r) (line rows k) e → ⊥

-- new is the row of the pivot at place i
pub record IsTurnedLine (slack : ℕ) (basis : List ℕ) (rows : List (List ℤ)) (r e i : ℕ) (new : List ℤ) : Type 0 where
  pub other : i ≢ r → IsNextLine (line rows i) (line rows r) e (own slack basis i) new
  pub moved : i ≡ r → IsMovedLine (line rows r) e new

-- what becomes of row i by the pivot: it stays, a new row takes its place, or it can't be cleared without a wide number
abbrev pub IsTurned : ℕ → List ℕ → List (List ℤ) → ℕ → ℕ → ℕ → Turned → Type 0
IsTurned slack basis rows r e i Kept = IsTurnedLine slack basis rows r e i (line rows i)
IsTurned slack basis rows r e i (New new) = IsTurnedLine slack basis rows r e i new
IsTurned slack basis rows r e i Wide = IsWideLine rows r e i

-- the rows with those that are given in their places
abbrev pub replaced : List (List ℤ) → List (Option (List ℤ)) → List (List ℤ)
replaced rows [] = []
replaced [] (change ∷ changes) = []
replaced (row ∷ rows) (None ∷ changes) = row ∷ replaced rows changes
replaced (row ∷ rows) (Some new ∷ changes) = new ∷ replaced rows changes

-- the rows new are the rows of the pivot at place r in the column e
pub record AreNextLines (slack : ℕ) (basis : List ℕ) (rows : List (List ℤ)) (r e : ℕ) (new : List (List ℤ)) : Type 0 where
  pub count : length new ≡ length rows
  pub each : (i : ℕ) → i < length rows → IsTurnedLine slack basis rows r e i (line new i)

-- after a pivot at place r in the column e
pub record IsPivoted (old : Table) (r e : ℕ) (new : Table) : Type 0 where
  pub relaxed : new.relaxed ≡ old.relaxed
  pub slack : new.slack ≡ old.slack
  -- the column has the place, and the other places keep theirs
  pub basis : new.basis ≡ slice_set old.basis r e
  -- no row was wide
  pub narrow : (i : ℕ) → i < length old.rows → i ≢ r → IsWideRow (line old.rows r) (line old.rows i) e → ⊥
  -- of whatever program the old rows were the tableau, the new are
  pub tableau : (s : Equations) → IsTableOf s old.slack old.basis old.rows → IsTableOf s new.slack new.basis new.rows
  -- by a pivot of its equations
  pub pivot : (s : Equations) → IsTableOf s old.slack old.basis old.rows
      → IsPivot s (own old.slack old.basis) (number old.rows) r e (number new.rows)
  -- how each row was made of the old one and the pivot row, with positive multipliers
  pub made : (s : Equations) → IsTableOf s old.slack old.basis old.rows → (i : ℕ) → i < length old.rows → i ≢ r
      → Made s (entry (line old.rows i)) (entry (line old.rows r)) e (entry (line new.rows i))
