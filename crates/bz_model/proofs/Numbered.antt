-- Facts of lists whose elements are numbered, and lists made of the numbers that a function gives.
use Rattle.std.specs.Prelude.{ℕ, zero, suc, ◌+◌, ◌<◌, ◌≤◌, ◌≡◌, ℤ, ◌+ℤ◌, List, [], ◌∷◌, length, map}
use Rattle.std.specs.List.{AllByRecursion, enumerate_from}
use Rattle.std.proofs.Common.{refl, ap, sym, subst, arith, inl, inr}
use Rattle.std.proofs.lemmas.Bool.{cases_eq}
use Rattle.std.proofs.lemmas.Int.{ints}
use Rattle.bz_algebra.specs.Numbers.{IsNarrow}
use Rattle.bz_algebra.specs.Sums.{upto}
use Rattle.bz_model.specs.Points.{coordinate}
use Rattle.bz_model.specs.PartPoints.{total}

module _ {X : Type 0} where
  -- what holds of each element holds of it beside its number
  pub all_numbered : (P : X → Type 0) (n : ℕ) (xs : List X) → AllByRecursion P xs → AllByRecursion (λ e. P e.1) (enumerate_from n xs)
  all_numbered P n [] h = tt
  all_numbered P n (x ∷ xs) h = (h.0, all_numbered P (n + 1) xs h.1)

  pub all_from_numbered : (P : X → Type 0) (n : ℕ) (xs : List X) → AllByRecursion (λ e. P e.1) (enumerate_from n xs) → AllByRecursion P xs
  all_from_numbered P n [] h = tt
  all_from_numbered P n (x ∷ xs) h = (h.0, all_from_numbered P (n + 1) xs h.1)

  -- what holds of the number of each element holds of each number from the first on
  pub each_number : (R : ℕ → Type 0) (n : ℕ) (xs : List X) → AllByRecursion (λ e. R e.0) (enumerate_from n xs) → (b : ℕ) → n ≤ b → b < n + length xs → R b
  each_number R n [] h b l u = absurd (omega arith)
  each_number R n (x ∷ xs) h b l u = elim (cases_eq n b) [
    | inl e ↦ subst R e h.0
    | inr d ↦ each_number R (n + 1) xs h.1 b (omega arith) (omega arith)
  ]

pub all_mapped : {X Y : Type 0} (P : Y → Type 0) (f : X → Y) (xs : List X) → AllByRecursion (λ x. P (f x)) xs → AllByRecursion P (map f xs)
all_mapped P f [] h = tt
all_mapped P f (x ∷ xs) h = (h.0, all_mapped P f xs h.1)

-- ---- sums
-- the first number of a sum
pub upto_first : (n : ℕ) (f : ℕ → ℤ) → upto (suc n) f ≡ f 0 +ℤ upto n (λ i. f (suc i))
upto_first zero f = omega (arith, ints)
upto_first (suc n) f = let h = upto_first n f in omega (arith, ints)

-- the numbers of a list together
pub total_upto : (xs : List ℤ) → total xs ≡ upto (length xs) (coordinate xs)
total_upto [] = refl
total_upto (x ∷ xs) = rw (total_upto xs) (sym (upto_first (length xs) (coordinate (x ∷ xs))))

-- ---- lists of the numbers f 0, f 1, ..
pub list_of : ℕ → (ℕ → ℤ) → List ℤ
list_of zero f = []
list_of (suc n) f = f 0 ∷ list_of n (λ i. f (suc i))

pub length-list_of : (n : ℕ) (f : ℕ → ℤ) → length (list_of n f) ≡ n
unfolding list_of
length-list_of zero f = refl
length-list_of (suc n) f = ap suc (length-list_of n (λ i. f (suc i)))

-- no number of the list is wide
pub narrow-list_of : (n : ℕ) (f : ℕ → ℤ) → ((i : ℕ) → IsNarrow (f i)) → AllByRecursion IsNarrow (list_of n f)
unfolding list_of
narrow-list_of zero f h = tt
narrow-list_of (suc n) f h = (h 0, narrow-list_of n (λ i. f (suc i)) (λ i. h (suc i)))

pub coordinate-list_of : (n : ℕ) (f : ℕ → ℤ) (j : ℕ) → j < n → coordinate (list_of n f) j ≡ f j
unfolding list_of
coordinate-list_of zero f j l = absurd (omega arith)
coordinate-list_of (suc n) f zero l = refl
coordinate-list_of (suc n) f (suc j) l = coordinate-list_of n (λ i. f (suc i)) j (omega arith)
