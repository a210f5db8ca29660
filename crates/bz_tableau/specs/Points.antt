-- Points and directions of a basis, over the program's own columns. A relaxed program has the column s after them; its slacks are `slack + i`, by row.
use Rattle.std.specs.Prelude.{ℕ, ◌+◌, ◌<◌, ◌≡◌, ◌≢◌, ℤ, pos, ◌*ℤ◌, ◌≤ℤ◌, ◌<ℤ◌, Bool, unsigned_abs, false}
use Rattle.std.specs.Int.{◌∣◌}
use Rattle.bz_algebra.specs.Sums.{upto}
use Rattle.bz_algebra.specs.Tableaus.{Equations, side, Program, IsRow, rows_of, objective_entry}

-- the column is at none of the basis's places
abbrev pub IsOutside : Equations → (ℕ → ℕ) → ℕ → Type 0
IsOutside s basis j = (i : ℕ) → i < s.rows → basis i ≢ j

-- the left side of row i at z
abbrev pub terms : Equations → (ℕ → ℤ) → ℕ → ℤ
terms s z i = upto s.slack (λ j. s.entry i j *ℤ z j)

-- the cost of z; of a relaxed program it is s
abbrev pub cost_at : Bool → Program → (ℕ → ℤ) → ℤ
cost_at relaxed p z = upto (rows_of relaxed p).slack (λ j. objective_entry relaxed p j *ℤ z j)

-- ---- the common denominator
-- d is a multiple of the number that each basic column below the bound has in its row
abbrev pub IsMultipleOfEntries : Equations → (ℕ → ℕ) → ℕ → ℕ → Type 0
IsMultipleOfEntries s basis bound d = (i : ℕ) (v : ℕ → ℤ) → i < s.rows → basis i < bound → IsRow s basis i v
    → unsigned_abs (v (basis i)) ∣ d

-- den is the least common multiple of these numbers, 1 where there are none
pub record IsLeastMultiple (s : Equations) (basis : ℕ → ℕ) (bound : ℕ) (den : ℤ) : Type 0 where
  pub positive : (pos 0) <ℤ den
  pub multiple : IsMultipleOfEntries s basis bound (unsigned_abs den)
  pub least : (d : ℕ) → IsMultipleOfEntries s basis bound d → unsigned_abs den ∣ d

-- den is the least common multiple over all basic columns before the slacks
abbrev pub IsCommonDenominator : Equations → (ℕ → ℕ) → ℤ → Type 0
IsCommonDenominator s basis den = IsLeastMultiple s basis s.slack den

-- ---- the point
-- z / den is the point of the basis: 0 in the columns outside it, and in a basic one what its row says where the other columns are 0
pub record IsPoint (s : Equations) (basis : ℕ → ℕ) (z : ℕ → ℤ) (den : ℤ) : Type 0 where
  pub denominator : IsCommonDenominator s basis den
  pub outside : (j : ℕ) → j < s.slack → IsOutside s basis j → z j ≡ pos 0
  pub basic : (i : ℕ) (v : ℕ → ℤ) → i < s.rows → basis i < s.slack → IsRow s basis i v
      → z (basis i) *ℤ v (basis i) ≡ den *ℤ v (side s)

-- no right side of the basis is negative, as where its point meets the rows
abbrev pub HasNoNegativeSide : Bool → Program → (ℕ → ℕ) → Type 0
HasNoNegativeSide relaxed p basis = (i : ℕ) (v : ℕ → ℤ) → i < p.rows → IsRow (rows_of relaxed p) basis i v
    → (pos 0) ≤ℤ (v (side (rows_of relaxed p)))

-- z / den meets each row, and no number of it is negative
pub record MeetsRows (s : Equations) (z : ℕ → ℤ) (den : ℤ) : Type 0 where
  pub rows_hold : (i : ℕ) → i < s.rows → (terms s z i) ≤ℤ (s.right i *ℤ den)
  pub nonnegative : (j : ℕ) → j < s.slack → (pos 0) ≤ℤ (z j)

-- ---- directions
-- along d the column rises, and each other column outside the basis stays at 0. A slack rises where the terms of its row fall, and stays where they stay
pub record IsDirection (s : Equations) (basis : ℕ → ℕ) (column : ℕ) (d : ℕ → ℤ) : Type 0 where
  pub inside : column < side s
  pub outside : IsOutside s basis column
  pub rises : column < s.slack → (pos 0) <ℤ (d column)
  pub slack_rises : (i : ℕ) → i < s.rows → column ≡ s.slack + i → (terms s d i) <ℤ (pos 0)
  pub stays : (j : ℕ) → j < s.slack → j ≢ column → IsOutside s basis j → d j ≡ pos 0
  pub slack_stays : (i : ℕ) → i < s.rows → s.slack + i ≢ column → IsOutside s basis (s.slack + i) → terms s d i ≡ pos 0

-- along d no column falls, no row's terms rise, and the cost falls
pub record FallsFreely (p : Program) (d : ℕ → ℤ) : Type 0 where
  pub columns : (j : ℕ) → j < p.columns → (pos 0) ≤ℤ (d j)
  pub rows : (i : ℕ) → i < p.rows → (terms (rows_of false p) d i) ≤ℤ (pos 0)
  pub cost : (upto p.columns (λ j. p.cost j *ℤ d j)) <ℤ (pos 0)

-- the column makes the basis a ray: where it rises, the cost falls freely
abbrev pub MakesRay : Program → (ℕ → ℕ) → ℕ → Type 0
MakesRay p basis column = (d : ℕ → ℤ) × IsDirection (rows_of false p) basis column d × FallsFreely p d

-- and no column before it does
pub record IsRayColumn (p : Program) (basis : ℕ → ℕ) (column : ℕ) : Type 0 where
  pub makes : MakesRay p basis column
  pub first : (j : ℕ) → j < column → MakesRay p basis j → ⊥
