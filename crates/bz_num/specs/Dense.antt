-- Rows of whole numbers with one number for each column: no number wide, common divisors, and rows divided by them.
use Rattle.std.specs.Prelude.{ℕ, ◌<◌, ◌≡◌, ℤ, pos, ◌*ℤ◌, List, length, slice_index_or}
use Rattle.std.specs.Int.{◌∣◌}
use Rattle.std.specs.Int.RustNames.{unsigned_abs}
use Rattle.bz_algebra.specs.Numbers.{IsNarrow}

-- the number of a row in a column, 0 past its end
abbrev pub entry : List ℤ → ℕ → ℤ
entry row j = slice_index_or row j (pos 0)

-- no number of the row is wide
abbrev pub AreNarrow : List ℤ → Type 0
AreNarrow row = (j : ℕ) → j < length row → IsNarrow (entry row j)

-- d divides each number of the row
abbrev pub DividesRow : ℕ → List ℤ → Type 0
DividesRow d row = (j : ℕ) → j < length row → d ∣ unsigned_abs (entry row j)

-- g is the greatest common divisor of the row's numbers
pub record IsDivisorOf (g : ℕ) (row : List ℤ) : Type 0 where
  pub divides : DividesRow g row
  pub greatest : (d : ℕ) → DividesRow d row → d ∣ g

-- each number of old is so many times that of new
pub record IsDivided (divisor : ℤ) (old new : List ℤ) : Type 0 where
  pub width : length new ≡ length old
  pub numbers : (j : ℕ) → j < length old → entry old j ≡ divisor *ℤ entry new j
  pub narrow : AreNarrow new
