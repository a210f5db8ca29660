-- Inequalities that hold at a point, times positive multipliers, add up to one that holds there.
use Rattle.std.specs.Prelude.{ℕ, zero, suc, ◌<◌, ◌≡◌, ℤ, ◌+ℤ◌, ◌*ℤ◌, ◌≤ℤ◌, neg_ℤ, List, [], ◌∷◌, length}
use Rattle.std.specs.List.{AllByRecursion}
use Rattle.std.proofs.Common.{ap, sym, ◌∙◌, arith}
use Rattle.bz_algebra.specs.Sums.{dot, coef, upto, AllBelow}
use Rattle.bz_algebra.specs.Systems.{System, ArePositive}
use Rattle.bz_algebra.proofs.Duality.{weak_duality}
use Rattle.bz_algebra.proofs.Ring.{*ℤ_assoc, neg_mul}
use Rattle.bz_algebra.proofs.SumLemmas.{dot_all, dot_scale_right, dot_same_below, upto_same, upto_scale, upto_neg}
use Rattle.bz_model.specs.declared.Ineq.{Ineq}
use Rattle.bz_cut.specs.Rows.{own_at, master_at, rhs_at, AreMultipliers}

-- the inequality's own terms are of the first w variables of the one kind, and the others of the first d of the other
pub record FitsIn (w d : ℕ) (i : Ineq) : Type 0 where
  pub own : AllBelow w i.own
  pub master : AllBelow d i.master

-- the inequality holds at the point x/q, y/q
abbrev pub HoldsAt : (ℕ → ℤ) → (ℕ → ℤ) → ℤ → Ineq → Type 0
HoldsAt x y q i = (dot i.own x +ℤ dot i.master y) ≤ℤ (i.rhs *ℤ q)

-- the inequalities as a system, of which the first variables are those of the own terms
abbrev pub system_of : ℕ → ℕ → List Ineq → System
system_of w d is = record {
  count = length is;
  width = w;
  depth = d;
  first = λ n i. coef (own_at is n) i;
  second = λ n j. coef (master_at is n) j;
  rhs = rhs_at is;
}

row_holds : (w d : ℕ) (x y : ℕ → ℤ) (q : ℤ) (is : List Ineq) → AllByRecursion (FitsIn w d) is → AllByRecursion (HoldsAt x y q) is → (r : ℕ) → r < length is → (upto w (λ i. coef (own_at is r) i *ℤ x i) +ℤ upto d (λ j. coef (master_at is r) j *ℤ y j)) ≤ℤ (rhs_at is r *ℤ q)
row_holds w d x y q [] f h r l = absurd (omega arith)
row_holds w d x y q (i ∷ is) f h zero l = rw (← dot_all w i.own x f.0.own, ← dot_all d i.master y f.0.master) h.0
row_holds w d x y q (i ∷ is) f h (suc r) l = row_holds w d x y q is f.1 h.1 r (omega arith)

positives : (n : ℕ) (mu : List (ℕ × ℤ)) → AreMultipliers n mu → ArePositive n mu
positives n [] h = tt
positives n (e ∷ es) h = (h.0.0, h.0.1, positives n es h.1)

pub sum_holds : (w d : ℕ) (is : List Ineq) (mu : List (ℕ × ℤ)) (x y a b : ℕ → ℤ) (q c : ℤ) → AllByRecursion (FitsIn w d) is → AllByRecursion (HoldsAt x y q) is → AreMultipliers (length is) mu → ((i : ℕ) → i < w → dot mu (λ n. coef (own_at is n) i) ≡ a i) → ((j : ℕ) → j < d → dot mu (λ n. coef (master_at is n) j) ≡ b j) → dot mu (rhs_at is) ≡ c → (upto w (λ i. a i *ℤ x i) +ℤ upto d (λ j. b j *ℤ y j)) ≤ℤ (c *ℤ q)
sum_holds w d is mu x y a b q c f h k firsts seconds right = weak_duality (system_of w d is) mu x y a b q c
    (record { rows_hold = row_holds w d x y q is f h })
    (record { multipliers = positives (length is) mu k; firsts = firsts; seconds = seconds; right = right })

-- ---- multiples of a row at a point
pub upto_multiple : (n : ℕ) (c : ℤ) (es : List (ℕ × ℤ)) (f : ℕ → ℤ) → AllBelow n es → upto n (λ i. (c *ℤ coef es i) *ℤ f i) ≡ c *ℤ dot es f
upto_multiple n c es f h =
    upto_same n _ _ (λ i l. *ℤ_assoc c (coef es i) (f i))
    ∙ upto_scale n c (λ i. coef es i *ℤ f i)
    ∙ ap (λ (t : ℤ). c *ℤ t) (sym (dot_all n es f h))

pub upto_multiple_neg : (n : ℕ) (c : ℤ) (es : List (ℕ × ℤ)) (f : ℕ → ℤ) → AllBelow n es → upto n (λ i. neg_ℤ (c *ℤ coef es i) *ℤ f i) ≡ neg_ℤ (c *ℤ dot es f)
upto_multiple_neg n c es f h =
    upto_same n _ _ (λ i l. neg_mul (c *ℤ coef es i) (f i))
    ∙ upto_neg n (λ i. (c *ℤ coef es i) *ℤ f i)
    ∙ ap neg_ℤ (upto_multiple n c es f h)

-- a row at two points of which one is a multiple of the other
pub dot_scaled : (n : ℕ) (es : List (ℕ × ℤ)) (f g : ℕ → ℤ) (a b : ℤ) → AllBelow n es → ((i : ℕ) → i < n → f i *ℤ a ≡ g i *ℤ b) → dot es f *ℤ a ≡ dot es g *ℤ b
dot_scaled n es f g a b h r =
    sym (dot_scale_right es f a)
    ∙ dot_same_below n es (λ i. f i *ℤ a) (λ i. g i *ℤ b) h r
    ∙ dot_scale_right es g b
