-- A sparse row with one pair more.
use Rattle.std.proofs.Common.{ℕ, zero, suc, ◌<◌, ◌≤◌, List, [], ◌∷◌, ◌++◌, arith, ℤ, pos, negsuc}
use Rattle.std.specs.Int.RustNames.{unsigned_abs}
use Rattle.bz_algebra.specs.Numbers.{IsNarrow}
use Rattle.bz_algebra.specs.Sums.{AllBelow}
use Rattle.bz_num.specs.Row.{IsSparse, IsSparseFrom, entry_at}

pushed_from : (low j : ℕ) (z : ℤ) (es : List (ℕ × ℤ)) → low ≤ j → IsSparseFrom low es → AllBelow j es → 0 < unsigned_abs z → IsNarrow z → IsSparseFrom low (es ++ (j, z) ∷ [])
pushed_from low j z [] at h below some narrow = (record { column = at; some = some; narrow = narrow }, tt)
pushed_from low j z (e ∷ es) at h below some narrow = (h.0, pushed_from (suc e.0) j z es (omega (arith, below.0)) h.1 below.1 some narrow)

-- a number at a column above all of a row's
pub pushed : (j : ℕ) (z : ℤ) (es : List (ℕ × ℤ)) → IsSparse es → AllBelow j es → 0 < unsigned_abs z → IsNarrow z → IsSparse (es ++ (j, z) ∷ [])
pushed j z es h below some narrow = pushed_from 0 j z es (omega arith) h below some narrow

-- the columns of a row stay below n
below_entry : (n j : ℕ) (z : ℤ) → j < n → AllBelow n (entry_at j z)
below_entry n j (pos zero) h = tt
below_entry n j (pos (suc k)) h = (h, tt)
below_entry n j (negsuc k) h = (h, tt)

pub below_pushed : (n j : ℕ) (z : ℤ) (es : List (ℕ × ℤ)) → j < n → AllBelow n es → AllBelow n (es ++ entry_at j z)
below_pushed n j z [] h below = below_entry n j z h
below_pushed n j z (e ∷ es) h below = (below.0, below_pushed n j z es h below.1)
