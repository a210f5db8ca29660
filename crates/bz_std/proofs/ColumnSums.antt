-- A row over the two columns of each variable: its coefficients, and its sum where a variable is the difference of its columns.
use Rattle.std.specs.Prelude.{ℕ, ◌+◌, ◌*◌, ◌<◌, ◌≡◌, ℤ, ◌+ℤ◌, ◌-ℤ◌, ◌*ℤ◌, neg_ℤ, List, [], ◌∷◌}
use Rattle.std.proofs.Common.{refl, ap, sym, ◌∙◌, arith, inl, inr}
use Rattle.std.proofs.lemmas.Bool.{cases_eq}
use Rattle.std.proofs.lemmas.Int.{ints}
use Rattle.bz_algebra.specs.Sums.{dot, coef, upto, AllBelow}
use Rattle.bz_algebra.proofs.Ring.{mul_sub, neg_mul}
use Rattle.bz_algebra.proofs.SumLemmas.{coef_cons, dot_all, single, single_at, single_off}
use Rattle.bz_std.specs.Meanings.{differences}
use Rattle.bz_std.specs.Posed.{over_columns}

-- ---- coefficients
-- the number of a term at its own index
single_same : (v : ℤ) (n m : ℕ) → n ≡ m → single n v m ≡ v
single_same v n m e = ap (single n v) (sym e) ∙ single_at n v

even : (k : ℕ) (v : ℤ) (j : ℕ) → single (2 * k) v (2 * j) ≡ single k v j
even k v j = elim (cases_eq k j) [
  | inl e ↦ single_same v (2 * k) (2 * j) (omega (arith, e)) ∙ sym (single_same v k j e)
  | inr d ↦ single_off (2 * k) v (2 * j) (λ e. d (omega arith)) ∙ sym (single_off k v j d)
]

odd : (k : ℕ) (v : ℤ) (j : ℕ) → single (2 * k + 1) v (2 * j + 1) ≡ single k v j
odd k v j = elim (cases_eq k j) [
  | inl e ↦ single_same v (2 * k + 1) (2 * j + 1) (omega (arith, e)) ∙ sym (single_same v k j e)
  | inr d ↦ single_off (2 * k + 1) v (2 * j + 1) (λ e. d (omega arith)) ∙ sym (single_off k v j d)
]

single_neg : (k : ℕ) (v : ℤ) (j : ℕ) → single k (neg_ℤ v) j ≡ neg_ℤ (single k v j)
single_neg k v j = elim (cases_eq k j) [
  | inl e ↦ single_same (neg_ℤ v) k j e ∙ ap neg_ℤ (sym (single_same v k j e))
  | inr d ↦ single_off k (neg_ℤ v) j d ∙ ap neg_ℤ (sym (single_off k v j d))
]

-- in a variable's first column stands its coefficient
pub coef_even : (es : List (ℕ × ℤ)) (j : ℕ) → coef (over_columns es) (2 * j) ≡ coef es j
coef_even [] j = refl
coef_even (e ∷ es) j =
    coef_cons (2 * e.0, e.1) ((2 * e.0 + 1, neg_ℤ e.1) ∷ over_columns es) (2 * j)
    ∙ ap (λ (t : ℤ). single (2 * e.0) e.1 (2 * j) +ℤ t) (coef_cons (2 * e.0 + 1, neg_ℤ e.1) (over_columns es) (2 * j))
    ∙ rw (even e.0 e.1 j, single_off (2 * e.0 + 1) (neg_ℤ e.1) (2 * j) (λ n. omega arith), coef_even es j, coef_cons e es j) (omega (arith, ints))

-- and in its second one the negative of it
pub coef_odd : (es : List (ℕ × ℤ)) (j : ℕ) → coef (over_columns es) (2 * j + 1) ≡ neg_ℤ (coef es j)
coef_odd [] j = refl
coef_odd (e ∷ es) j =
    coef_cons (2 * e.0, e.1) ((2 * e.0 + 1, neg_ℤ e.1) ∷ over_columns es) (2 * j + 1)
    ∙ ap (λ (t : ℤ). single (2 * e.0) e.1 (2 * j + 1) +ℤ t) (coef_cons (2 * e.0 + 1, neg_ℤ e.1) (over_columns es) (2 * j + 1))
    ∙ rw (single_off (2 * e.0) e.1 (2 * j + 1) (λ n. omega arith), odd e.0 (neg_ℤ e.1) j, single_neg e.0 e.1 j, coef_odd es j, coef_cons e es j) (omega (arith, ints))

-- ---- sums
apart : (v a b rest : ℤ) → (v *ℤ a) +ℤ ((neg_ℤ v *ℤ b) +ℤ rest) ≡ (v *ℤ (a -ℤ b)) +ℤ rest
apart v a b rest = omega (arith, ints, mul_sub v a b, neg_mul v b)

pub dot_over_columns : (es : List (ℕ × ℤ)) (z : ℕ → ℤ) → dot (over_columns es) z ≡ dot es (differences z)
dot_over_columns [] z = refl
dot_over_columns (e ∷ es) z = rw (dot_over_columns es z) (apart e.1 (z (2 * e.0)) (z (2 * e.0 + 1)) (dot es (differences z)))

-- ---- indexes
pub columns_below : (n : ℕ) (es : List (ℕ × ℤ)) → AllBelow n es → AllBelow (2 * n) (over_columns es)
columns_below n [] h = tt
columns_below n (e ∷ es) h = let l : e.0 < n = h.0 in (omega arith, (omega arith, columns_below n es h.1))

-- a row of the program, at its columns
pub sum_of_columns : (n : ℕ) (es : List (ℕ × ℤ)) (z : ℕ → ℤ) → AllBelow n es → upto (2 * n) (λ j. coef (over_columns es) j *ℤ z j) ≡ dot es (differences z)
sum_of_columns n es z h = sym (dot_all (2 * n) (over_columns es) z (columns_below n es h)) ∙ dot_over_columns es z
