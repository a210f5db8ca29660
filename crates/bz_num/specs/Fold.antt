-- Sums of products, in order, and their first wide place.
use Rattle.std.specs.Prelude.{ℕ, zero, suc, ◌+◌, ◌<◌, ◌^◌, ℤ, pos, ◌+ℤ◌, ◌*ℤ◌, List, [], ◌∷◌, length, Result, Ok, Err, ◌⊎◌, Bool, ◌||◌, nat_le, if◌then◌else◌}
use Rattle.std.specs.Int.RustNames.{unsigned_abs}
use Rattle.bz_algebra.specs.Numbers.{IsWide}
use Rattle.bz_num.specs.declared.products.WideSum.{WideSum}

-- the product of the pair at a place, 0 where there is none
abbrev pub product_at : List (ℤ × ℤ) → ℕ → ℤ
product_at [] k = pos 0
product_at (p ∷ ps) zero = p.0 *ℤ p.1
product_at (p ∷ ps) (suc k) = product_at ps k

-- the sum of the first k products
abbrev pub partial : List (ℤ × ℤ) → ℕ → ℤ
partial ps zero = pos 0
partial ps (suc k) = partial ps k +ℤ product_at ps k

-- the sum of all products
abbrev pub products : List (ℤ × ℤ) → ℤ
products [] = pos 0
products (p ∷ ps) = (p.0 *ℤ p.1) +ℤ products ps

-- there is a pair at k, and its product or the sum with it is wide
pub record IsWideAt (ps : List (ℤ × ℤ)) (k : ℕ) : Type 0 where
  pub inside : k < length ps
  pub wide : IsWide (product_at ps k) ⊎ IsWide (partial ps (suc k))

-- no pair's product is wide, and no sum with it
abbrev pub IsNarrowSum : List (ℤ × ℤ) → Type 0
IsNarrowSum ps = (k : ℕ) → ¬ IsWideAt ps k

-- the first place where a product or the sum with it is wide
pub record IsFirstWide (ps : List (ℤ × ℤ)) (k : ℕ) : Type 0 where
  pub here : IsWideAt ps k
  pub first : (i : ℕ) → i < k → ¬ IsWideAt ps i

-- whether a number is wide
abbrev pub is_wide : ℤ → Bool
is_wide z = nat_le (2 ^ 127) (unsigned_abs z)

-- whether a product or the sum with it is wide
abbrev pub goes_wide : ℤ → ℤ × ℤ → Bool
goes_wide sum p = is_wide (p.0 *ℤ p.1) || is_wide (sum +ℤ (p.0 *ℤ p.1))

-- what a folding has taken: the sum of its products and the number of its pairs
pub record Taken : Type 0 where
  pub sum : ℤ
  pub count : ℕ

-- the sum of the products, after `at` pairs that gave `sum`, or the first wide place
abbrev pub fold_from : ℕ → ℤ → List (ℤ × ℤ) → Result ℤ WideSum
fold_from at sum [] = Ok sum
fold_from at sum (p ∷ ps) =
    (if goes_wide sum p then Err (record { at = at }) else fold_from (at + 1) (sum +ℤ (p.0 *ℤ p.1)) ps)

-- the sum of the products, or the first wide place
abbrev pub fold_of : List (ℤ × ℤ) → Result ℤ WideSum
fold_of ps = fold_from 0 (pos 0) ps

-- the pairs of a row's numbers and of what f gives at their columns
abbrev pub pairs_at : List (ℕ × ℤ) → (ℕ → ℤ) → List (ℤ × ℤ)
pairs_at [] f = []
pairs_at (e ∷ es) f = (e.1, f e.0) ∷ pairs_at es f
