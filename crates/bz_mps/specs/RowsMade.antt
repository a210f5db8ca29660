-- What the rows of a model are made of.
use Rattle.std.specs.Prelude.{ℕ, suc, ℤ, pos, ◌≡◌, ◌≤◌, ◌^◌, Bool, true, false, List, [], ◌∷◌, Option, Some, None, length}
use Rattle.std.specs.List.{AllByRecursion}
use Rattle.std.specs.Option.{ForSome}
use Rattle.std.proofs.Math.IntN.{neg_ℤ}
use Rattle.bz_algebra.specs.Numbers.{IsNarrow}
use Rattle.bz_num.specs.Decimals.{IsWithinLimits}
use Rattle.bz_num.specs.declared.Dec.{Dec}
use Rattle.bz_facts.specs.declared.Entry.{Entry}
use Rattle.bz_facts.specs.declared.Facts.{Facts}
use Rattle.bz_facts.specs.declared.Given.{Given}
use Rattle.bz_mps.specs.declared.rows_made.Objective.{Objective}
use Rattle.bz_mps.specs.declared.row_sides.Sides.{Sides}
use Rattle.bz_mps.specs.ByPlace.{AreByPlace}
use Rattle.bz_mps.specs.NumbersMade.{IsScalable}
use Rattle.bz_mps.specs.ScaledRows.{decimals_of, most_digits, scaled, terms_by}

-- the answer is there exactly where the test does not fail, and P holds of it
abbrev pub Unless : {X : Type 0} → Bool → (X → Type 0) → Option X → Type 0
Unless fails P None = fails ≡ true
Unless fails P (Some x) = (fails ≡ false) × P x

-- the columns of the entries rise, from low on
abbrev pub RiseFrom : ℕ → List Entry → Type 0
RiseFrom low [] = Unit {0}
RiseFrom low (e ∷ es) = (low ≤ e.column) × RiseFrom (suc e.column) es

-- the numbers of the entries are within their limits, and whole once they are 10^k times as large
abbrev pub AreScalable : ℕ → List Entry → Type 0
AreScalable k entries = AllByRecursion (λ e. IsScalable k e.number) entries

-- a row's entries, right side and range: each number is within its limits, and each column comes once
pub record AreRowFacts (entries : List Entry) (rhs : Dec) (range : Option Dec) : Type 0 where
  pub within : AllByRecursion IsWithinLimits (decimals_of entries rhs range)
  pub rising : RiseFrom 0 entries

-- the sides, none of which is wide
pub record AreSides (lower upper : Option ℤ) (s : Sides) : Type 0 where
  pub lower_is : s.lower ≡ lower
  pub upper_is : s.upper ≡ upper
  pub lower_narrow : ForSome s.lower IsNarrow
  pub upper_narrow : ForSome s.upper IsNarrow

-- the facts of each row
pub record AreByRow (f : Facts) (entries : List (List Entry)) (right_sides ranges : List (List Given)) : Type 0 where
  pub entries_are : AreByPlace (λ e. e.row) (length f.row_types) f.entries entries
  pub right_sides_are : AreByPlace (λ g. g.row) (length f.row_types) f.right_sides right_sides
  pub ranges_are : AreByPlace (λ g. g.row) (length f.row_types) f.ranges ranges

-- the objective with these entries and this right side: its terms, its constant, and the power of ten that makes them whole
pub record IsObjectiveWith (entries : List Entry) (rhs : Dec) (o : Objective) : Type 0 where
  pub cost_is : o.cost ≡ terms_by (most_digits (decimals_of entries rhs None)) entries
  pub constant_is : o.constant ≡ neg_ℤ (scaled (most_digits (decimals_of entries rhs None)) rhs)
  pub constant_narrow : IsNarrow o.constant
  pub scale_is : o.scale ≡ pos (10 ^ most_digits (decimals_of entries rhs None))
