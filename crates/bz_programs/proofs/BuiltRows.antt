-- Rows built pair by pair.
use Rattle.std.specs.Prelude.{ℕ, suc, ◌<◌, ◌≤◌, ℤ, List, [], ◌∷◌, ◌++◌}
use Rattle.std.proofs.Common.{arith}
use Rattle.bz_algebra.specs.Sums.{AllBelow}
use Rattle.bz_num.specs.Row.{IsEntryFrom, IsSparseFrom}

pub sparse_more : (low : ℕ) (es : List (ℕ × ℤ)) (e : ℕ × ℤ) → IsSparseFrom low es → AllBelow e.0 es → IsEntryFrom low e → IsSparseFrom low (es ++ (e ∷ []))
sparse_more low [] e h b f = (f, tt)
sparse_more low (d ∷ es) e h b f = (h.0, sparse_more (suc d.0) es e h.1 b.1 (record { column = omega (arith, b.0); some = f.some; narrow = f.narrow }))

pub below_more : (n : ℕ) (es : List (ℕ × ℤ)) (e : ℕ × ℤ) → AllBelow n es → e.0 < n → AllBelow n (es ++ (e ∷ []))
below_more n [] e h b = (b, tt)
below_more n (d ∷ es) e h b = (h.0, below_more n es e h.1 b)

pub below_wider : (n m : ℕ) (es : List (ℕ × ℤ)) → AllBelow n es → n ≤ m → AllBelow m es
below_wider n m [] h l = tt
below_wider n m (e ∷ es) h l = (omega (arith, h.0, l), below_wider n m es h.1 l)
