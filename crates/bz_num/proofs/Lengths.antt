-- A sparse row of columns below n has at most n entries.
use Rattle.std.proofs.Common.{ℕ, suc, ◌+◌, ◌≤◌, List, [], ◌∷◌, length, arith, ℤ}
use Rattle.bz_algebra.specs.Sums.{AllBelow}
use Rattle.bz_num.specs.Row.{IsSparse, IsSparseFrom}

short_from : (low n : ℕ) (es : List (ℕ × ℤ)) → low ≤ n → IsSparseFrom low es → AllBelow n es → low + length es ≤ n
short_from low n [] l h below = omega (arith, l)
short_from low n (e ∷ es) l h below =
    let rest : suc e.0 + length es ≤ n = short_from (suc e.0) n es (omega (arith, below.0)) h.1 below.1 in
    omega (arith, h.0.column)

pub short : (n : ℕ) (es : List (ℕ × ℤ)) → IsSparse es → AllBelow n es → length es ≤ n
short n es h below = let most = short_from 0 n es (omega arith) h below in omega (arith, most)
