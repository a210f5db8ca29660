-- The order in which the rows of a tableau are compared: it leaves no choice of the leaving row, and no basis comes twice.
--
-- A row is read in the places of an order: first its right side, then the columns of the phase's first basis. The first of these numbers that isn't 0 decides. To compare two rows each is divided by its entry in one column, the entering column where a leaving row is sought, the factor column for objective rows; both entries are positive, so it is done by products.
use Rattle.std.specs.Prelude.{ℕ, zero, suc, ◌+◌, ◌<◌, ◌≤◌, ◌≡◌, ◌≢◌, ℤ, pos, ◌-ℤ◌, ◌*ℤ◌, ◌<ℤ◌, List, [], ◌∷◌}
use Rattle.bz_algebra.specs.Tableaus.{Equations, side, IsRow, IsTableau, IsBasis, NoTwoAlike, AllWithinBound}

-- ---- the order
-- the right side, then the columns of the phase's first basis
abbrev pub order : Equations → (ℕ → ℕ) → ℕ → ℕ
order s first zero = side s
order s first (suc k) = first k

-- the order's first n places are columns or the right side
abbrev pub AreInRange : Equations → ℕ → (ℕ → ℕ) → Type 0
AreInRange s n places = (k : ℕ) → k < n → places k ≤ side s

-- one of the first n numbers is positive, and those before it are 0
pub record IsLexPositive (n : ℕ) (x : ℕ → ℤ) : Type 0 where
  pub place : ℕ
  pub inside : place < n
  pub positive : (pos 0) <ℤ (x place)
  pub before : (k : ℕ) → k < place → x k ≡ pos 0

-- the first n numbers are 0
abbrev pub AreZeros : ℕ → (ℕ → ℤ) → Type 0
AreZeros n x = (k : ℕ) → k < n → x k ≡ pos 0

-- a row's numbers in the places of an order
abbrev pub read : (ℕ → ℕ) → (ℕ → ℤ) → ℕ → ℤ
read places v k = v (places k)

-- by how much the row v, divided by its entry in the column c, is more than the row w, divided by its own, at each place: times both entries
abbrev pub lead : (ℕ → ℕ) → ℕ → (ℕ → ℤ) → (ℕ → ℤ) → ℕ → ℤ
lead places c v w k = (w c *ℤ v (places k)) -ℤ (v c *ℤ w (places k))

-- v is above w, each divided by its entry in the column c
abbrev pub IsAbove : ℕ → (ℕ → ℕ) → ℕ → (ℕ → ℤ) → (ℕ → ℤ) → Type 0
IsAbove n places c v w = IsLexPositive n (lead places c v w)

-- neither is above the other
abbrev pub AreLevel : ℕ → (ℕ → ℕ) → ℕ → (ℕ → ℤ) → (ℕ → ℤ) → Type 0
AreLevel n places c v w = AreZeros n (lead places c v w)

-- ---- the rows of a tableau
-- each of the first `count` rows is positive in the order
abbrev pub AreLexPositive : ℕ → ℕ → (ℕ → ℕ) → (ℕ → ℕ → ℤ) → Type 0
AreLexPositive count n places w = (i : ℕ) → i < count → IsLexPositive n (read places (w i))

-- row r leaves where the column e enters: of the first `count` rows with a positive entry in e it is below all others
pub record IsLeaving (count n : ℕ) (places : ℕ → ℕ) (w : ℕ → ℕ → ℤ) (e r : ℕ) : Type 0 where
  pub inside : r < count
  pub positive : (pos 0) <ℤ (w r e)
  pub below : (i : ℕ) → i < count → i ≢ r → (pos 0) <ℤ (w i e) → IsAbove n places e (w i) (w r)

-- ---- the bases of a phase
-- a basis with the column c at place o, whose row there is below v
pub record IsPassed (s : Equations) (n : ℕ) (places : ℕ → ℕ) (o c : ℕ) (v : ℕ → ℤ) (basis : ℕ → ℕ) : Type 0 where
  pub own : basis o ≡ c
  pub row : ℕ → ℤ
  pub is_row : IsRow s basis o row
  pub above : IsAbove n places c v row

-- the row of each is below v
abbrev pub ArePassed : Equations → ℕ → (ℕ → ℕ) → ℕ → ℕ → (ℕ → ℤ) → List (ℕ → ℕ) → Type 0
ArePassed s n places o c v [] = Unit {0}
ArePassed s n places o c v (basis ∷ met) = IsPassed s n places o c v basis × ArePassed s n places o c v met

-- the bases met before the one whose objective row is v, at place o and with the factor column c: no two have the same columns at the places before, and the objective row of each is below v
pub record AreMet (s : Equations) (n : ℕ) (places : ℕ → ℕ) (o c : ℕ) (v : ℕ → ℤ) (met : List (ℕ → ℕ)) : Type 0 where
  pub different : NoTwoAlike o met
  pub within : AllWithinBound o c met
  pub passed : ArePassed s n places o c v met

-- a basis on the way of a phase, whose tableau is w, with the bases met before it: the last row, at place o, is the objective's, and its column the factor column
pub record IsStage (s : Equations) (first : ℕ → ℕ) (o : ℕ) (basis : ℕ → ℕ) (w : ℕ → ℕ → ℤ) (met : List (ℕ → ℕ)) : Type 0 where
  pub last : s.rows ≡ suc o
  pub first_basis : IsBasis s first
  pub first_own : first o ≡ s.slack + o
  pub own : basis o ≡ s.slack + o
  pub tableau : IsTableau s basis w
  pub rows : AreLexPositive o (suc o) (order s first) w
  pub before : AreMet s (suc o) (order s first) o (s.slack + o) (w o) met
