-- Sparse rows: pairs of a column and its number.
use Rattle.std.specs.Prelude.{ℕ, zero, suc, ℤ, pos, List, [], ◌∷◌, ◌<◌, ◌≤◌}
use Rattle.std.specs.Int.RustNames.{unsigned_abs}
use Rattle.bz_algebra.specs.Numbers.{IsNarrow}

-- a pair at a column from low on, whose number is neither zero nor wide
pub record IsEntryFrom (low : ℕ) (e : ℕ × ℤ) : Type 0 where
  pub column : low ≤ e.0
  pub some : 0 < unsigned_abs e.1
  pub narrow : IsNarrow e.1

-- the columns rise from low on, and no number is zero or wide
abbrev pub IsSparseFrom : ℕ → List (ℕ × ℤ) → Type 0
IsSparseFrom low [] = Unit {0}
IsSparseFrom low (e ∷ es) = IsEntryFrom low e × IsSparseFrom (suc e.0) es

-- the columns rise, and no number is zero or wide
abbrev pub IsSparse : List (ℕ × ℤ) → Type 0
IsSparse es = IsSparseFrom 0 es

-- the pair of a column and its number, none for the number 0
abbrev pub entry_at : ℕ → ℤ → List (ℕ × ℤ)
entry_at j (pos zero) = []
entry_at j z = (j, z) ∷ []
