-- Tests of a sum that is compared with a number or with a product.
use Rattle.std.specs.Prelude.{ℕ, ℤ, ◌≡◌, ◌≤ℤ◌, List, [], ◌∷◌, Result}
use Rattle.bz_algebra.specs.Numbers.{IsNarrow}
use Rattle.bz_algebra.specs.Sums.{dot}
use Rattle.bz_num.specs.declared.WideSum.{WideSum}
use Rattle.bz_num.specs.Fold.{IsNarrowSum, fold_of, pairs_at}
use Rattle.bz_first.specs.Tests.{Judges, Test, test}

-- the tests of an equation: its sum is not wide, the product that it is compared with is not wide, and the sum is the
-- number
abbrev pub equation : {F : Type 0} → F → F → List (ℕ × ℤ) → (ℕ → ℤ) → ℤ → ℤ → List (Test F)
equation broken wide multipliers f product number =
    test wide (IsNarrowSum (pairs_at multipliers f))
    ∷ test wide (IsNarrow product)
    ∷ test broken (dot multipliers f ≡ number)
    ∷ []

-- the tests of a sum that is compared with a number as it stands
abbrev pub sum_is : {F : Type 0} → F → F → List (ℕ × ℤ) → (ℕ → ℤ) → ℤ → List (Test F)
sum_is broken wide multipliers f number =
    test wide (IsNarrowSum (pairs_at multipliers f)) ∷ test broken (dot multipliers f ≡ number) ∷ []

-- the tests that a sum is at most a product
abbrev pub at_most : {F : Type 0} → F → F → List (ℕ × ℤ) → (ℕ → ℤ) → ℤ → List (Test F)
at_most broken wide multipliers f product =
    test wide (IsNarrowSum (pairs_at multipliers f))
    ∷ test wide (IsNarrow product)
    ∷ test broken (dot multipliers f ≤ℤ product)
    ∷ []

-- whatever numbers f and multipliers of them the sum is folded from, their tests judge the result
abbrev pub JudgesSum : {F T : Type 0} → Result ℤ WideSum → (List (ℕ × ℤ) → (ℕ → ℤ) → List (Test F)) → Result T F → Type 0
JudgesSum sum tests result =
    (multipliers : List (ℕ × ℤ)) (f : ℕ → ℤ) → sum ≡ fold_of (pairs_at multipliers f) → Judges (tests multipliers f) result
