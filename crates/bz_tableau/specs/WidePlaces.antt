-- Where the numbers of a basis's answer go wide: its common denominator, its point, and the direction of a ray.
use Rattle.std.specs.Prelude.{ℕ, suc, ◌<◌, ◌≡◌, ◌⊎◌, ℤ, ◌*ℤ◌, Bool, false, List, length}
use Rattle.bz_algebra.specs.Numbers.{IsNarrow, IsWide}
use Rattle.bz_algebra.specs.Tableaus.{Equations, side, Program, IsRow, IsObjectiveRow, rows_of}
use Rattle.bz_tableau.specs.Answers.{IsBasisList, AreMultipliersFor}
use Rattle.bz_tableau.specs.Laws.{place}
use Rattle.bz_tableau.specs.Points.{IsLeastMultiple, IsCommonDenominator, HasNoNegativeSide, MakesRay}

-- ---- the signs of an answer
-- the objective row's multipliers aren't negative, nor are its terms
pub record HasLeastSigns (relaxed : Bool) (p : Program) (basis : ℕ → ℕ) : Type 0 where
  pub den : ℤ
  pub y : ℕ → ℤ
  pub objective : IsObjectiveRow relaxed p basis den y
  pub bounds : AreMultipliersFor relaxed p den y

-- the program isn't relaxed, and the column makes the basis a ray
pub record IsRayAlong (relaxed : Bool) (p : Program) (basis : ℕ → ℕ) (column : ℕ) : Type 0 where
  pub unrelaxed : relaxed ≡ false
  pub makes : MakesRay p basis column

-- no right side is negative, and the objective row isn't or some column makes the basis a ray: these are the bases that have an answer, whose numbers may be wide
pub record HasAnswerSigns (relaxed : Bool) (p : Program) (basis : List ℕ) : Type 0 where
  pub is_basis : IsBasisList relaxed p basis
  pub right_sides : HasNoNegativeSide relaxed p (place basis)
  pub signs : HasLeastSigns relaxed p (place basis) ⊎ ((column : ℕ) × IsRayAlong relaxed p (place basis) column)

-- ---- wide numbers
-- in the order of the columns, the least common multiple of the basic columns' entries up to the column at place i is wide
pub record IsWideMultiple (s : Equations) (basis : ℕ → ℕ) (i : ℕ) : Type 0 where
  pub multiple : ℤ
  pub is_multiple : IsLeastMultiple s basis (suc (basis i)) multiple
  pub wide : IsWide multiple

-- the row's right side, taken so many times, is wide, or its number in one of the rays' columns is
abbrev pub IsWideTimes : Equations → (ℕ → Type 0) → (ℕ → ℤ) → ℤ → Type 0
IsWideTimes s Rises v times = IsWide (v (side s) *ℤ times) ⊎ ((column : ℕ) × Rises column × IsWide (v column *ℤ times))

-- the common denominator isn't wide, but over it the column at place i has a wide number in the point, or in the direction of one of the rays
pub record IsWideValue (s : Equations) (Rises : ℕ → Type 0) (basis : ℕ → ℕ) (i : ℕ) : Type 0 where
  pub den : ℤ
  pub denominator : IsCommonDenominator s basis den
  pub narrow : IsNarrow den
  pub row : ℕ → ℤ
  pub is_row : IsRow s basis i row
  pub times : ℤ
  pub times_is : times *ℤ row (basis i) ≡ den
  pub wide : IsWideTimes s Rises row times

-- of a basis: the column at place i is before the slacks, and a number goes wide there; the rays are those along the columns `Rises`
pub record IsWidePlace (s : Equations) (Rises : ℕ → Type 0) (basis : ℕ → ℕ) (i : ℕ) : Type 0 where
  pub inside : i < s.rows
  pub before_slacks : basis i < s.slack
  pub wide : IsWideMultiple s basis i ⊎ IsWideValue s Rises basis i

-- ---- places by number
-- the places below rows whose columns are before the slacks, in the rising order of the columns
pub record IsRisingOrder (rows slack : ℕ) (basis : ℕ → ℕ) (order : List ℕ) : Type 0 where
  pub inside : (k : ℕ) → k < length order → place order k < rows
  pub before_slacks : (k : ℕ) → k < length order → basis (place order k) < slack
  pub rising : (k l : ℕ) → k < l → l < length order → basis (place order k) < basis (place order l)
  pub complete : (i : ℕ) → i < rows → basis i < slack
      → (k : ℕ) × (k < length order) × (basis (place order k) ≡ basis i)

-- the basis has an answer, and at the column of this number of the rising order, counted from 0, a number of its point goes wide, or one of the direction of a ray
pub record IsTrueDen (relaxed : Bool) (p : Program) (basis : List ℕ) (at : ℕ) : Type 0 where
  pub has_answer : HasAnswerSigns relaxed p basis
  pub order : List ℕ
  pub is_order : IsRisingOrder p.rows (rows_of relaxed p).slack (place basis) order
  pub inside : at < length order
  pub wide : IsWidePlace (rows_of relaxed p) (IsRayAlong relaxed p (place basis)) (place basis) (place order at)
