-- Sums over lists with changed items.
use Rattle.std.proofs.Common.{◌≡◌, refl, ap, ℕ, zero, suc, ◌+◌, ◌≤◌, List, [], ◌∷◌, ◌++◌, arith}
use Rattle.std.specs.Prelude.{Some}
use Rattle.std.specs.List.{slice_get}
use Rattle.bz_model.specs.Sizes.{sum_of}
use Rattle.bz_history.specs.States.{changed}

pub sum_of-append : {X : Type 0} (f : X → ℕ) (xs ys : List X) → sum_of f (xs ++ ys) ≡ sum_of f xs + sum_of f ys
sum_of-append f [] ys = omega arith
sum_of-append f (x ∷ xs) ys =
    let rest : sum_of f (xs ++ ys) ≡ sum_of f xs + sum_of f ys = sum_of-append f xs ys in
    omega arith

-- where no item counts more, nor does the sum
pub sum_no_more : {X : Type 0} (g h : X → ℕ) (xs : List X) → ((k : ℕ) (x : X) → slice_get xs k ≡ Some x → h x ≤ g x) → sum_of h xs ≤ sum_of g xs
sum_no_more g h [] less = omega arith
sum_no_more g h (x ∷ xs) less =
    let here : h x ≤ g x = less 0 x refl in
    let rest : sum_of h xs ≤ sum_of g xs = sum_no_more g h xs (λ k y at. less (suc k) y at) in
    omega arith

-- and it falls at least as much as any item does
pub sum_falls : {X : Type 0} (g h : X → ℕ) (xs : List X) (i : ℕ) (x : X) → slice_get xs i ≡ Some x → ((k : ℕ) (y : X) → slice_get xs k ≡ Some y → h y ≤ g y)
    → sum_of h xs + g x ≤ sum_of g xs + h x
sum_falls g h [] i x is less = absurd (cc)
sum_falls g h (y ∷ ys) zero x is less =
    let same : y ≡ x = cc in
    let old : g y ≡ g x = ap g same in
    let new : h y ≡ h x = ap h same in
    let rest : sum_of h ys ≤ sum_of g ys = sum_no_more g h ys (λ k z at. less (suc k) z at) in
    omega arith
sum_falls g h (y ∷ ys) (suc i) x is less =
    let here : h y ≤ g y = less 0 y refl in
    let rest : sum_of h ys + g x ≤ sum_of g ys + h x = sum_falls g h ys i x is (λ k z at. less (suc k) z at) in
    omega arith

-- with one item changed the sum differs by what that item does
pub sum_changed : {X : Type 0} (g : X → ℕ) (f : X → X) (xs : List X) (i : ℕ) (x : X) → slice_get xs i ≡ Some x
    → sum_of g (changed f xs i) + g x ≡ sum_of g xs + g (f x)
sum_changed g f [] i x is = absurd (cc)
sum_changed g f (y ∷ ys) zero x is =
    let same : y ≡ x = cc in
    let old : g y ≡ g x = ap g same in
    let new : g (f y) ≡ g (f x) = ap (λ z. g (f z)) same in
    omega arith
sum_changed g f (y ∷ ys) (suc i) x is =
    let rest : sum_of g (changed f ys i) + g x ≡ sum_of g ys + g (f x) = sum_changed g f ys i x is in
    omega arith

-- so it rises at most by what the changed item counts
pub sum_rises : {X : Type 0} (g : X → ℕ) (f : X → X) (n : ℕ) (xs : List X) (i : ℕ) → ((x : X) → g (f x) ≤ n) → sum_of g (changed f xs i) ≤ sum_of g xs + n
sum_rises g f n [] i most = omega arith
sum_rises g f n (x ∷ xs) zero most =
    let here : g (f x) ≤ n = most x in
    omega arith
sum_rises g f n (x ∷ xs) (suc i) most =
    let rest : sum_of g (changed f xs i) ≤ sum_of g xs + n = sum_rises g f n xs i most in
    omega arith
