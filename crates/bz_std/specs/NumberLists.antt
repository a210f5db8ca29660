-- Lists of the first numbers of a function.
use Rattle.std.specs.Prelude.{ℕ, ◌-◌, ◌^◌, ◌<◌, ◌≡◌, ℤ, negsuc, List, length}
use Rattle.bz_num.specs.Dense.{AreNarrow, entry}

-- -2^127, the one number of an i128 that is wide
abbrev pub wide_number : ℤ
wide_number = negsuc (2 ^ 127 - 1)

-- the list has the first n numbers of f, none of them wide
pub record HasNumbers (n : ℕ) (f : ℕ → ℤ) (values : List ℤ) : Type 0 where
  pub width : length values ≡ n
  pub numbers : (j : ℕ) → j < n → entry values j ≡ f j
  pub narrow : AreNarrow values
