-- Farkas' lemma over rows that are lists of pairs of a column and a number.
use Rattle.std.specs.Prelude.{ℕ, zero, suc, ◌<◌, ◌≤◌, ◌≡◌, ℤ, pos, ◌+ℤ◌, ◌*ℤ◌, ◌≤ℤ◌, ◌<ℤ◌, ◌⊎◌, List, [], ◌∷◌, ◌++◌, length}
use Rattle.std.specs.List.{AllByRecursion}
use Rattle.std.proofs.Common.{refl, ap, sym, subst, ◌∙◌, arith, inl, inr}
use Rattle.std.proofs.lemmas.Int.{ints, by_lt_z}
use Rattle.std.proofs.lemmas.Bool.{cases_eq}
use Rattle.bz_algebra.specs.Sums.{dot, coef, upto, AllBelow}
use Rattle.bz_algebra.specs.Systems.{ArePositive}
use Rattle.bz_algebra.proofs.Ring.{add_zero, le_antisym, zero_mul}
use Rattle.bz_algebra.proofs.SumLemmas.{coef_cons, dot_all, dot_append, single, single_at, single_off}
use Rattle.bz_farkas.specs.Falls.{IsFall, HasBalance, IsPrimitive}
use Rattle.bz_farkas.specs.SparseFalls.{row_at, IsFallOf, HasFallOf, HasBalanceOf}
use Rattle.bz_farkas.proofs.Farkas as dense
use Rattle.bz_farkas.proofs.PrimitiveFalls as primitive

-- ---- each row of a list
each_row : (P : List (ℕ × ℤ) → Type 0) (rows : List (List (ℕ × ℤ))) → AllByRecursion P rows → (i : ℕ) → i < length rows → P (row_at rows i)
each_row P [] h i b = absurd (omega arith)
each_row P (row ∷ rows) h zero b = h.0
each_row P (row ∷ rows) h (suc i) b = each_row P rows h.1 i (omega arith)

all_rows : (P : List (ℕ × ℤ) → Type 0) (rows : List (List (ℕ × ℤ))) → ((i : ℕ) → i < length rows → P (row_at rows i)) → AllByRecursion P rows
all_rows P [] h = tt
all_rows P (row ∷ rows) h = (h zero (omega arith), all_rows P rows (λ i b. h (suc i) (omega arith)))

-- the sum over a row is its sum over all columns
row_sum : (n : ℕ) (rows : List (List (ℕ × ℤ))) (d : ℕ → ℤ) → AllByRecursion (AllBelow n) rows → (i : ℕ) → i < length rows → dot (row_at rows i) d ≡ upto n (λ j. coef (row_at rows i) j *ℤ d j)
row_sum n rows d h i b = dot_all n (row_at rows i) d (each_row (AllBelow n) rows h i b)

-- ---- multipliers as a list
more : (m k : ℕ) (mu : List (ℕ × ℤ)) → m ≤ k → ArePositive m mu → ArePositive k mu
more m k [] l h = tt
more m k (e ∷ es) l h = (omega (arith, h.0), h.1, more m k es l h.2)

one_more : (m : ℕ) (v : ℤ) (mu : List (ℕ × ℤ)) → ArePositive m mu → (pos 0) <ℤ v → ArePositive (suc m) (mu ++ ((m, v) ∷ []))
one_more m v [] h l = (omega arith, l, tt)
one_more m v (e ∷ es) h l = (omega (arith, h.0), h.1, one_more m v es h.2 l)

-- the multipliers that aren't 0, by the numbers of their rows
record Entries (m : ℕ) (y : ℕ → ℤ) : Type 0 where
  mu : List (ℕ × ℤ)
  positive : ArePositive m mu
  sums : (f : ℕ → ℤ) → dot mu f ≡ upto m (λ i. y i *ℤ f i)

entries : (m : ℕ) (y : ℕ → ℤ) → ((i : ℕ) → i < m → (pos 0) ≤ℤ (y i)) → Entries m y
entries zero y h = record { mu = []; positive = tt; sums = λ f. refl }
entries (suc m) y h = let e = entries m y (λ i b. h i (omega arith)) in by_lt_z (pos 0) (y m)
    (λ l. record {
      mu = e.mu ++ ((m, y m) ∷ []);
      positive = one_more m (y m) e.mu e.positive l;
      sums = λ f. dot_append e.mu ((m, y m) ∷ []) f ∙ (λ k. e.sums f k +ℤ add_zero (y m *ℤ f m) k);
    })
    (λ l. record {
      mu = e.mu;
      positive = more m (suc m) e.mu (omega arith) e.positive;
      sums = λ f. e.sums f ∙ sym (add_zero (upto m (λ i. y i *ℤ f i))) ∙ ap (λ (t : ℤ). upto m (λ i. y i *ℤ f i) +ℤ t) (sym (zero_mul (f m)) ∙ ap (λ (t : ℤ). t *ℤ f m) (le_antisym (pos 0) (y m) (h m (omega arith)) l));
    })

-- ---- and back
all_below : (m : ℕ) (mu : List (ℕ × ℤ)) → ArePositive m mu → AllBelow m mu
all_below m [] h = tt
all_below m (e ∷ es) h = (h.0, all_below m es h.2)

single_nonnegative : (k : ℕ) (v : ℤ) → (pos 0) <ℤ v → (i : ℕ) → (pos 0) ≤ℤ (single k v i)
single_nonnegative k v l i = elim (cases_eq k i) [ inl e ↦ subst (λ (j : ℕ). (pos 0) ≤ℤ (single k v j)) e (rw (single_at k v) (omega (arith, ints))) | inr d ↦ rw (single_off k v i d) (omega (arith, ints)) ]

coef_nonnegative : (m : ℕ) (mu : List (ℕ × ℤ)) → ArePositive m mu → (i : ℕ) → (pos 0) ≤ℤ (coef mu i)
coef_nonnegative m [] h i = omega (arith, ints)
coef_nonnegative m (e ∷ es) h i = rw (coef_cons e es i) (omega (arith, ints, single_nonnegative e.0 e.1 h.1 i, coef_nonnegative m es h.2 i))

-- ---- the two ends
fall : (n : ℕ) (rows : List (List (ℕ × ℤ))) (cost : List (ℕ × ℤ)) (d : ℕ → ℤ) → AllByRecursion (AllBelow n) rows → AllBelow n cost → IsFall n (length rows) (λ i. coef (row_at rows i)) (coef cost) d → IsFallOf rows cost d
fall n rows cost d r c f = record {
  rows_hold = all_rows (λ row. (dot row d) ≤ℤ (pos 0)) rows (λ i b. rw (row_sum n rows d r i b) (f.rows_hold i b));
  cost_falls = rw (dot_all n cost d c) f.cost_falls;
}

dense_fall : (n : ℕ) (rows : List (List (ℕ × ℤ))) (cost : List (ℕ × ℤ)) (d : ℕ → ℤ) → AllByRecursion (AllBelow n) rows → AllBelow n cost → IsFallOf rows cost d → IsFall n (length rows) (λ i. coef (row_at rows i)) (coef cost) d
dense_fall n rows cost d r c f = record {
  rows_hold = λ i b. rw (← row_sum n rows d r i b) (each_row (λ row. (dot row d) ≤ℤ (pos 0)) rows f.rows_hold i b);
  cost_falls = rw (← dot_all n cost d c) f.cost_falls;
}

balance : (n : ℕ) (rows : List (List (ℕ × ℤ))) (cost : List (ℕ × ℤ)) → HasBalance n (length rows) (λ i. coef (row_at rows i)) (coef cost) → HasBalanceOf n rows cost
balance n rows cost b = let e = entries (length rows) b.0 b.2.multipliers in (
  e.mu,
  b.1,
  record {
    multipliers = e.positive;
    positive = b.2.positive;
    balanced = λ j l. rw (e.sums (λ i. coef (row_at rows i) j)) (b.2.balanced j l);
  },
)

dense_balance : (n : ℕ) (rows : List (List (ℕ × ℤ))) (cost : List (ℕ × ℤ)) → HasBalanceOf n rows cost → HasBalance n (length rows) (λ i. coef (row_at rows i)) (coef cost)
dense_balance n rows cost b = (
  coef b.0,
  b.1,
  record {
    multipliers = λ i l. coef_nonnegative (length rows) b.0 b.2.multipliers i;
    positive = b.2.positive;
    balanced = λ j l. rw (← dot_all (length rows) b.0 (λ i. coef (row_at rows i) j) (all_below (length rows) b.0 b.2.multipliers)) (b.2.balanced j l);
  },
)

pub fall_or_balance : (n : ℕ) (rows : List (List (ℕ × ℤ))) (cost : List (ℕ × ℤ)) → AllByRecursion (AllBelow n) rows → AllBelow n cost → HasFallOf rows cost ⊎ HasBalanceOf n rows cost
fall_or_balance n rows cost r c = elim (dense.fall_or_balance n (length rows) (λ i. coef (row_at rows i)) (coef cost)) [
  | inl f ↦ inl (f.0, fall n rows cost f.0 r c f.1)
  | inr b ↦ inr (balance n rows cost b)
]

pub not_both : (n : ℕ) (rows : List (List (ℕ × ℤ))) (cost : List (ℕ × ℤ)) → AllByRecursion (AllBelow n) rows → AllBelow n cost → HasFallOf rows cost → HasBalanceOf n rows cost → ⊥
not_both n rows cost r c f b = dense.not_both n (length rows) (λ i. coef (row_at rows i)) (coef cost) (f.0, dense_fall n rows cost f.0 r c f.1) (dense_balance n rows cost b)

pub primitive_fall : (n : ℕ) (rows : List (List (ℕ × ℤ))) (cost : List (ℕ × ℤ)) → AllByRecursion (AllBelow n) rows → AllBelow n cost → HasFallOf rows cost → (d : ℕ → ℤ) × IsFallOf rows cost d × IsPrimitive n d
primitive_fall n rows cost r c f =
    let p = primitive.primitive_fall n (length rows) (λ i. coef (row_at rows i)) (coef cost) (f.0, dense_fall n rows cost f.0 r c f.1) in
    (p.0, fall n rows cost p.0 r c p.1, p.2)
