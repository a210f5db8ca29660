-- Sums that are begun, to be gone on with.
use Rattle.std.specs.Prelude.{ℤ, ◌≡◌, List, ◌++◌, Result, Ok, Err}
use Rattle.bz_num.specs.declared.WideSum.{WideSum}
use Rattle.bz_num.specs.Fold.{Taken, fold_from, fold_of}

-- what is taken, or the first wide place, is that of every sum that begins with the pairs
abbrev pub Begins : List (ℤ × ℤ) → Result Taken WideSum → Type 0
Begins pairs (Ok taken) = (rest : List (ℤ × ℤ)) → fold_of (pairs ++ rest) ≡ fold_from taken.count taken.sum rest
Begins pairs (Err wide) = (rest : List (ℤ × ℤ)) → fold_of (pairs ++ rest) ≡ Err wide
