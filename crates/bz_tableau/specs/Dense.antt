-- What a pivot makes of two rows with one number for each column.
use Rattle.std.specs.Prelude.{ℕ, suc, ◌<◌, ◌≡◌, ◌≢◌, ◌⊎◌, ℤ, pos, ◌-ℤ◌, ◌*ℤ◌, ◌<ℤ◌, List, length}
use Rattle.std.proofs.Math.IntN.{neg_ℤ}
use Rattle.std.specs.Int.{IsGcd}
use Rattle.std.specs.Int.RustNames.{unsigned_abs}
use Rattle.bz_algebra.specs.Numbers.{IsNarrow, IsWide}
use Rattle.bz_algebra.specs.Tableaus.{Equations, side, IsNewRow, IsMoved}
pub use Rattle.bz_num.specs.Dense.{entry, AreNarrow, DividesRow, IsDivisorOf, IsDivided}

-- ---- clearing a column of a row by the pivot row
-- what is left of the pivot row's entry p and of another row's entry r after the division by their greatest common divisor: the row is taken `kept` times and the pivot row `taken` times
pub record AreMultipliers (p r kept taken : ℤ) : Type 0 where
  pub divisor : ℕ
  pub is_gcd : IsGcd (unsigned_abs p) (unsigned_abs r) divisor
  pub divides : p ≡ pos divisor *ℤ kept
  pub divides_other : r ≡ pos divisor *ℤ taken

-- the multipliers, both with the sign by which the row is taken positively
pub record AreTurnedMultipliers (p r kept taken : ℤ) : Type 0 where
  pub plain_kept : ℤ
  pub plain_taken : ℤ
  pub multipliers : AreMultipliers p r plain_kept plain_taken
  pub signs : ((kept ≡ plain_kept) × (taken ≡ plain_taken)) ⊎ ((kept ≡ neg_ℤ plain_kept) × (taken ≡ neg_ℤ plain_taken))
  pub positive : (pos 0) <ℤ kept

-- a product or their difference is wide
abbrev pub IsWideStep : ℤ → ℤ → ℤ → ℤ → Type 0
IsWideStep kept a taken b = IsWide (kept *ℤ a) ⊎ (IsWide (taken *ℤ b) ⊎ IsWide ((kept *ℤ a) -ℤ (taken *ℤ b)))

-- neither product is wide, nor their difference
pub record IsNarrowStep (kept a taken b : ℤ) : Type 0 where
  pub left : IsNarrow (kept *ℤ a)
  pub right : IsNarrow (taken *ℤ b)
  pub difference : IsNarrow ((kept *ℤ a) -ℤ (taken *ℤ b))

-- in some column the row can't be cleared by the pivot row without a wide number
pub record IsWideRow (pivot row : List ℤ) (e : ℕ) : Type 0 where
  pub kept : ℤ
  pub taken : ℤ
  pub multipliers : AreMultipliers (entry pivot e) (entry row e) kept taken
  pub column : ℕ
  pub inside : column < length row
  pub wide : IsWideStep kept (entry row column) taken (entry pivot column)

-- new is `kept row - taken pivot`, and no step is wide
pub record IsCombined (kept : ℤ) (row : List ℤ) (taken : ℤ) (pivot new : List ℤ) : Type 0 where
  pub width : length new ≡ length row
  pub numbers : (j : ℕ) → j < length row → entry new j ≡ (kept *ℤ entry row j) -ℤ (taken *ℤ entry pivot j)
  pub narrow : (j : ℕ) → j < length row → IsNarrowStep kept (entry row j) taken (entry pivot j)

-- some step is wide
pub record HasWideStep (kept : ℤ) (row : List ℤ) (taken : ℤ) (pivot : List ℤ) : Type 0 where
  pub column : ℕ
  pub inside : column < length row
  pub wide : IsWideStep kept (entry row column) taken (entry pivot column)

-- ---- rows without a common divisor
-- new is old divided by its greatest common divisor, with the sign that makes it positive in the column own
pub record IsReduced (own : ℕ) (old new : List ℤ) : Type 0 where
  pub times : ℤ
  pub times_nonzero : times ≢ pos 0
  pub divided : IsDivided times old new
  pub primitive : (d : ℕ) → DividesRow d new → d ≡ 1
  pub positive : (pos 0) <ℤ (entry new own)

-- ---- the rows of a pivot
-- new is row cleared in the column e by the pivot row, primitive and positive in its own column; so it is in all equations whose right side is the last number of the rows
pub record IsNextLine (row pivot : List ℤ) (e own : ℕ) (new : List ℤ) : Type 0 where
  pub width : length new ≡ length row
  pub made : (s : Equations) → length row ≡ suc (side s) → IsNewRow s (entry row) (entry pivot) e own (entry new)
  pub narrow : IsWideRow pivot row e → ⊥

-- new is the row with the other sign
pub record IsNegated (row new : List ℤ) : Type 0 where
  pub width : length new ≡ length row
  pub numbers : (j : ℕ) → j < length row → entry new j ≡ neg_ℤ (entry row j)

-- new is the pivot row, primitive and positive in the column e
pub record IsMovedLine (pivot : List ℤ) (e : ℕ) (new : List ℤ) : Type 0 where
  pub width : length new ≡ length pivot
  pub moved : (s : Equations) → length pivot ≡ suc (side s) → IsMoved s (entry pivot) e (entry new)
