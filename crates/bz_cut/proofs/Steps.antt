-- Steps of loops over lists.
use Rattle.std.proofs.Common.{◌≡◌, ◌∙◌, ap, refl, ℕ, zero, suc, ◌<◌, List, [], ◌∷◌, length, get_or, arith, ℤ}
use Rattle.std.specs.List.{AllByRecursion}
use Rattle.bz_algebra.specs.Sums.{AllBelow}
use Rattle.bz_num.specs.Fold.{pairs_at}
use Rattle.bz_model.specs.declared.Ineq.{Ineq}
use Rattle.bz_cut.specs.Rows.{own_at, master_at, rhs_at, AreMultipliers}

-- the places of multipliers are in the list
pub multipliers_below : (n : ℕ) (es : List (ℕ × ℤ)) → AreMultipliers n es → AllBelow n es
multipliers_below n [] h = tt
multipliers_below n (e ∷ es) h = (h.0.0, multipliers_below n es h.1)

-- an inequality of a list by its place
pub own_at-is : (rows : List Ineq) (n : ℕ) (d : Ineq) → n < length rows → (get_or rows n d).own ≡ own_at rows n
own_at-is [] n d l = absurd (omega arith)
own_at-is (r ∷ rows) zero d l = refl
own_at-is (r ∷ rows) (suc n) d l = own_at-is rows n d (omega arith)

pub master_at-is : (rows : List Ineq) (n : ℕ) (d : Ineq) → n < length rows → (get_or rows n d).master ≡ master_at rows n
master_at-is [] n d l = absurd (omega arith)
master_at-is (r ∷ rows) zero d l = refl
master_at-is (r ∷ rows) (suc n) d l = master_at-is rows n d (omega arith)

pub rhs_at-is : (rows : List Ineq) (n : ℕ) (d : Ineq) → n < length rows → (get_or rows n d).rhs ≡ rhs_at rows n
rhs_at-is [] n d l = absurd (omega arith)
rhs_at-is (r ∷ rows) zero d l = refl
rhs_at-is (r ∷ rows) (suc n) d l = rhs_at-is rows n d (omega arith)

-- indexes below a bound, said in two ways
pub below_all : (n : ℕ) (es : List (ℕ × ℤ)) → AllByRecursion (λ e. e.0 < n) es → AllBelow n es
below_all n [] h = tt
below_all n (e ∷ es) h = (h.0, below_all n es h.1)

pub all_below : (n : ℕ) (es : List (ℕ × ℤ)) → AllBelow n es → AllByRecursion (λ e. e.0 < n) es
all_below n [] h = tt
all_below n (e ∷ es) h = (h.0, all_below n es h.1)

-- pairs with numbers that are equal
pub pairs_same : (es : List (ℕ × ℤ)) (f g : ℕ → ℤ) → ((n : ℕ) → f n ≡ g n) → pairs_at es f ≡ pairs_at es g
pairs_same [] f g h = refl
pairs_same (e ∷ es) f g h = ap (λ (z : ℤ). (e.1, z) ∷ pairs_at es f) (h e.0) ∙ ap (λ (ps : List (ℤ × ℤ)). (e.1, g e.0) ∷ ps) (pairs_same es f g h)
