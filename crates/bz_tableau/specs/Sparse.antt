-- Rows of which only the numbers that aren't 0 are kept, and their columns, met in order.
use Rattle.std.specs.Prelude.{ℕ, ◌<◌, ◌≤◌, ◌≡◌, ◌⊎◌, ℤ, pos, ◌-ℤ◌, ◌*ℤ◌, List, length, map, slice_index_or}
use Rattle.std.specs.List.{range_with_len}
use Rattle.bz_algebra.specs.Sums.{coef}
use Rattle.bz_num.specs.Row.{IsSparse}
use Rattle.bz_tableau.specs.Dense.{IsNarrowStep, IsWideStep}

-- the row of this width with these numbers in their columns, and 0 in the others
abbrev pub spread : ℕ → List (ℕ × ℤ) → List ℤ
spread width es = map (coef es) (range_with_len 0 width)

-- ---- columns in order
-- the column of the pair at a place
abbrev pub column_of : List (ℕ × ℤ) → ℕ → ℕ
column_of row i = (slice_index_or row i (0, pos 0)).0

-- i is the place of the column c in the row: the pairs before it stand in columns below c, the others in c or above
pub record IsPlaceOf (row : List (ℕ × ℤ)) (i c : ℕ) : Type 0 where
  pub inside : i ≤ length row
  pub before : (k : ℕ) → k < i → column_of row k < c
  pub after : (k : ℕ) → i ≤ k → k < length row → c ≤ column_of row k

-- c is the least of the columns that two rows have at these places
pub record IsNextColumn (row : List (ℕ × ℤ)) (i : ℕ) (other : List (ℕ × ℤ)) (k c : ℕ) : Type 0 where
  pub here : i < length row → c ≤ column_of row i
  pub there : k < length other → c ≤ column_of other k
  pub reached : ((i < length row) × (column_of row i ≡ c)) ⊎ ((k < length other) × (column_of other k ≡ c))

-- ---- a row cleared by another
-- new is `kept row - taken pivot` in each column, and no step is wide
pub record IsMerged (kept : ℤ) (row : List (ℕ × ℤ)) (taken : ℤ) (pivot new : List (ℕ × ℤ)) : Type 0 where
  pub sparse : IsSparse new
  pub numbers : (j : ℕ) → coef new j ≡ (kept *ℤ coef row j) -ℤ (taken *ℤ coef pivot j)
  pub narrow : (j : ℕ) → IsNarrowStep kept (coef row j) taken (coef pivot j)

-- in some column a step is wide
pub record HasWideColumn (kept : ℤ) (row : List (ℕ × ℤ)) (taken : ℤ) (pivot : List (ℕ × ℤ)) : Type 0 where
  pub column : ℕ
  pub wide : IsWideStep kept (coef row column) taken (coef pivot column)
