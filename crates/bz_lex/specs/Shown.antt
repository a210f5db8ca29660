-- What is read off a tableau: signs, and the numbers of its basic columns over a common denominator.
use Rattle.std.specs.Prelude.{ℕ, suc, ◌+◌, ◌<◌, ◌≡◌, ◌≢◌, ◌⊎◌, ℤ, pos, ◌*ℤ◌, neg_ℤ, ◌≤ℤ◌, ◌<ℤ◌, Bool, List, length, unsigned_abs, Option, Some, Result, Ok, Err}
use Rattle.std.specs.Int.{◌∣◌}
use Rattle.bz_algebra.specs.Numbers.{IsNarrow, IsWide}
use Rattle.bz_tableau.specs.Dense.{entry, DividesRow, IsDivided}
use Rattle.bz_tableau.specs.Laws.{place}
use Rattle.bz_tableau.specs.Programs.{rhs_of}
use Rattle.bz_tableau.specs.Tables.{Table, factor_column, shown, number}
use Rattle.bz_tableau.specs.declared.answers.Answer.{Answer}
use Rattle.bz_tableau.specs.declared.answers.Answer.TheVariants.{Least, Empty, Ray}
use Rattle.bz_tableau.specs.declared.answers.LpStop.{LpStop}
use Rattle.bz_tableau.specs.declared.answers.LpStop.TheVariants.{Wide, OutOfMemory}
use Rattle.bz_tableau.specs.declared.answers.Vals.{Vals}
use Rattle.bz_tableau.specs.declared.answers.WideAt.TheVariants.{Den}
use Rattle.bz_tableau.specs.declared.programs.Lp.{Lp}
use Rattle.bz_tableau.specs.WidePlaces.{IsRisingOrder}

-- ---- signs
-- no right side is negative
abbrev pub HasPoint : Table → Type 0
HasPoint t = (i : ℕ) → i < length t.basis → (pos 0) ≤ℤ (shown t i (factor_column t))

-- no right side of the program is negative, so that the slacks' basis has a point
abbrev pub HasSlackPoint : Lp → Type 0
HasSlackPoint lp = (i : ℕ) → i < length lp.rows → (pos 0) ≤ℤ (rhs_of lp.rows i)

-- no number of the objective row is negative
abbrev pub HasLeastCost : Table → Type 0
HasLeastCost t = (j : ℕ) → j < factor_column t → (pos 0) ≤ℤ (shown t (length t.basis) j)

-- no row has a positive number in the column
abbrev pub IsFree : Table → ℕ → Type 0
IsFree t column = (i : ℕ) → i < length t.basis → (shown t i column) ≤ℤ (pos 0)

-- the objective row is negative in the column, and no row is positive there
pub record IsFreeFall (t : Table) (column : ℕ) : Type 0 where
  pub inside : column < factor_column t
  pub falls : (shown t (length t.basis) column) <ℤ (pos 0)
  pub free : IsFree t column

-- and this isn't so in a column before it
pub record IsFirstFall (t : Table) (column : ℕ) : Type 0 where
  pub here : IsFreeFall t column
  pub first : (j : ℕ) → j < column → IsFreeFall t j → ⊥

-- ---- the places of the basis in an order
-- a basic column's own number in its row
abbrev pub own_entry : Table → List ℕ → ℕ → ℤ
own_entry t order k = shown t (place order k) (place t.basis (place order k))

-- places of the basis whose columns are before the slacks, each once
pub record IsOrderOf (t : Table) (order : List ℕ) : Type 0 where
  pub inside : (k : ℕ) → k < length order → place order k < length t.basis
  pub before_slacks : (k : ℕ) → k < length order → place t.basis (place order k) < t.slack
  pub different : (k l : ℕ) → k < length order → l < length order → place t.basis (place order k) ≡ place t.basis (place order l) → k ≡ l
  pub positive : (k : ℕ) → k < length order → (pos 0) <ℤ (own_entry t order k)

-- the columns of the basis differ, and each is positive in its own row
pub record IsShownBasis (t : Table) : Type 0 where
  pub different : (i k : ℕ) → i < length t.basis → k < length t.basis → place t.basis i ≡ place t.basis k → i ≡ k
  pub positive : (i : ℕ) → i < length t.basis → (pos 0) <ℤ (shown t i (place t.basis i))

-- ---- least common multiples
-- d is a multiple of the first n numbers
abbrev pub IsMultipleTo : ℕ → (ℕ → ℤ) → ℕ → Type 0
IsMultipleTo n e d = (k : ℕ) → k < n → unsigned_abs (e k) ∣ d

-- the least common multiple of the first n numbers
pub record IsLeastTo (n : ℕ) (e : ℕ → ℤ) (m : ℤ) : Type 0 where
  pub positive : (pos 0) <ℤ m
  pub multiple : IsMultipleTo n e (unsigned_abs m)
  pub least : (d : ℕ) → IsMultipleTo n e d → unsigned_abs m ∣ d

-- the least common multiple of two numbers
pub record IsLeastOfTwo (a b m : ℤ) : Type 0 where
  pub positive : (pos 0) <ℤ m
  pub left : unsigned_abs a ∣ unsigned_abs m
  pub right : unsigned_abs b ∣ unsigned_abs m
  pub least : (d : ℕ) → unsigned_abs a ∣ d → unsigned_abs b ∣ d → unsigned_abs m ∣ d

-- it is wide
pub record HasWideMultiple (a b : ℤ) : Type 0 where
  pub multiple : ℤ
  pub is_least : IsLeastOfTwo a b multiple
  pub wide : IsWide multiple

-- the least common multiple isn't wide
pub record IsNarrowLeast (n : ℕ) (e : ℕ → ℤ) (m : ℤ) : Type 0 where
  pub is_least : IsLeastTo n e m
  pub narrow : IsNarrow m

-- that of the numbers up to the one at k is wide, and that of those before it isn't
pub record IsFirstWideLeast (n : ℕ) (e : ℕ → ℤ) (k : ℕ) : Type 0 where
  pub inside : k < n
  pub multiple : ℤ
  pub is_least : IsLeastTo (suc k) e multiple
  pub wide : IsWide multiple
  pub before : ℤ
  pub is_narrow : IsNarrowLeast k e before

-- ---- numbers over a common denominator
-- number / entry is value / den
pub record IsOver (den entry number value : ℤ) : Type 0 where
  pub times : ℤ
  pub times_is : times *ℤ entry ≡ den
  pub value_is : value ≡ number *ℤ times
  pub narrow : IsNarrow value

-- that value is wide
pub record IsWideOver (den entry number : ℤ) : Type 0 where
  pub times : ℤ
  pub times_is : times *ℤ entry ≡ den
  pub wide : IsWide (number *ℤ times)

-- the values of the first n basic columns of an order, each at its column, and 0 elsewhere: what the rows have in the column, over den
pub record AreValuesTo (n : ℕ) (t : Table) (order : List ℕ) (den : ℤ) (column : ℕ) (values : List ℤ) : Type 0 where
  pub width : length values ≡ t.slack
  pub basic : (k : ℕ) → k < n → IsOver den (own_entry t order k) (shown t (place order k) column) (entry values (place t.basis (place order k)))
  pub other : (j : ℕ) → ((k : ℕ) → k < n → place t.basis (place order k) ≢ j) → entry values j ≡ pos 0

-- the first value that is wide
pub record IsFirstWideOver (n : ℕ) (t : Table) (order : List ℕ) (den : ℤ) (column k : ℕ) : Type 0 where
  pub inside : k < n
  pub here : IsWideOver den (own_entry t order k) (shown t (place order k) column)
  pub first : (l : ℕ) → l < k → IsWideOver den (own_entry t order l) (shown t (place order l) column) → ⊥

-- the objective row's numbers in the slacks
pub record AreMultipliersShown (t : Table) (y : List ℤ) : Type 0 where
  pub width : length y ≡ length t.basis
  pub numbers : (i : ℕ) → i < length t.basis → entry y i ≡ shown t (length t.basis) (t.slack + i)

-- ---- answers as the tableau shows them
-- the basic columns before the slacks, in rising order
abbrev pub IsShownOrder : Table → List ℕ → Type 0
IsShownOrder t order = IsRisingOrder (length t.basis) t.slack (place t.basis) order

-- the point of the basis over its common denominator
pub record IsShownPoint (t : Table) (order : List ℕ) (z : Vals) : Type 0 where
  pub den : IsNarrowLeast (length order) (own_entry t order) z.den
  pub values : AreValuesTo (length order) t order z.den (factor_column t) z.num

-- the point and the multipliers
pub record IsShownLeast (t : Table) (basis : List ℕ) (z y : Vals) : Type 0 where
  pub basis_is : basis ≡ t.basis
  pub order : List ℕ
  pub is_order : IsShownOrder t order
  pub point : IsShownPoint t order z
  pub multipliers : AreMultipliersShown t y.num
  pub factor_is : y.den ≡ number t.rows (length t.basis) (factor_column t)

-- so many times d raises the column by den, and each basic column by what its row says
pub record IsShownDirection (t : Table) (order : List ℕ) (den : ℤ) (column : ℕ) (times : ℤ) (d : List ℤ) : Type 0 where
  pub width : length d ≡ t.slack
  pub basic : (k : ℕ) → k < length order → place t.basis (place order k) ≢ column → (times *ℤ entry d (place t.basis (place order k))) *ℤ own_entry t order k ≡ neg_ℤ (shown t (place order k) column *ℤ den)
  pub own : column < t.slack → times *ℤ entry d column ≡ den
  pub other : (j : ℕ) → j < t.slack → j ≢ column → ((k : ℕ) → k < length order → place t.basis (place order k) ≢ j) → times *ℤ entry d j ≡ pos 0

-- old is 0 everywhere and new is old, or it is a positive number of times new, which has no common divisor but 1
abbrev pub IsPrimitivePart : List ℤ → List ℤ → Type 0
IsPrimitivePart old new = ((new ≡ old) × ((j : ℕ) → j < length old → entry old j ≡ pos 0)) ⊎ ((times : ℤ) × ((pos 0) <ℤ times) × IsDivided times old new × ((g : ℕ) → DividesRow g new → g ≡ 1))

-- d is a direction that raises the column, all 0 or without a common divisor but 1
pub record IsShownMove (t : Table) (order : List ℕ) (den : ℤ) (column : ℕ) (d : List ℤ) : Type 0 where
  pub times : ℤ
  pub times_positive : (pos 0) <ℤ times
  pub direction : IsShownDirection t order den column times d
  pub primitive : ((j : ℕ) → j < length d → entry d j ≡ pos 0) ⊎ ((g : ℕ) → DividesRow g d → g ≡ 1)
  pub narrow : (k : ℕ) → k < length order → IsWideOver (neg_ℤ den) (own_entry t order k) (shown t (place order k) column) → ⊥

-- the point and the direction
pub record IsShownRay (t : Table) (column : ℕ) (basis : List ℕ) (named : ℕ) (z : Vals) (d : List ℤ) : Type 0 where
  pub basis_is : basis ≡ t.basis
  pub column_is : named ≡ column
  pub order : List ℕ
  pub is_order : IsShownOrder t order
  pub point : IsShownPoint t order z
  pub move : IsShownMove t order z.den column d

abbrev pub ShowsLeast : Table → Answer → Type 0
ShowsLeast t (Least basis z y) = IsShownLeast t basis z y
ShowsLeast t (Empty basis y) = ⊥
ShowsLeast t (Ray basis column z d) = ⊥

abbrev pub ShowsRay : Table → ℕ → Answer → Type 0
ShowsRay t column (Least basis z y) = ⊥
ShowsRay t column (Empty basis y) = ⊥
ShowsRay t column (Ray basis named z d) = IsShownRay t column basis named z d

-- ---- and where they go wide
-- a value of the point is wide at k, or one of the direction, and none before
pub record IsFirstWideRay (t : Table) (order : List ℕ) (den : ℤ) (column k : ℕ) : Type 0 where
  pub inside : k < length order
  pub here : IsWideOver den (own_entry t order k) (shown t (place order k) (factor_column t)) ⊎ IsWideOver (neg_ℤ den) (own_entry t order k) (shown t (place order k) column)
  pub first_value : (l : ℕ) → l < k → IsWideOver den (own_entry t order l) (shown t (place order l) (factor_column t)) → ⊥
  pub first_move : (l : ℕ) → l < k → IsWideOver (neg_ℤ den) (own_entry t order l) (shown t (place order l) column) → ⊥

pub record GoesWideAtLeast (t : Table) (k : ℕ) : Type 0 where
  pub order : List ℕ
  pub is_order : IsShownOrder t order
  pub wide : IsFirstWideLeast (length order) (own_entry t order) k ⊎ ((den : ℤ) × IsNarrowLeast (length order) (own_entry t order) den × IsFirstWideOver (length order) t order den (factor_column t) k)

pub record GoesWideAtRay (t : Table) (column k : ℕ) : Type 0 where
  pub order : List ℕ
  pub is_order : IsShownOrder t order
  pub wide : IsFirstWideLeast (length order) (own_entry t order) k ⊎ ((den : ℤ) × IsNarrowLeast (length order) (own_entry t order) den × IsFirstWideRay t order den column k)

-- ---- the outcome
-- the answer, or the refusal that names the basis and the place; or memory was wanting for it
abbrev pub AnswersShown : Bool → List ℕ → Result Answer ℕ → Result (Option Answer) LpStop → Type 0
AnswersShown relaxed basis (Ok a) result = result ≡ Ok (Some a)
AnswersShown relaxed basis (Err k) result = (result ≡ Err (Wide (Den relaxed basis k))) ⊎ (result ≡ Err OutOfMemory)
