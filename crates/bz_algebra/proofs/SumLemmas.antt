-- Laws of the sums `dot`, `coef` and `upto`.
use Rattle.std.specs.Prelude.{ℕ, zero, suc, ◌+◌, ◌<◌, ◌≤◌, ◌≡◌, ◌≢◌, ℤ, pos, ◌+ℤ◌, ◌-ℤ◌, ◌*ℤ◌, neg_ℤ, ◌≤ℤ◌, List, [], ◌∷◌, ◌++◌, eqb, cond}
use Rattle.std.proofs.Common.{refl, ap, sym, ◌∙◌, arith, inl, inr}
use Rattle.std.proofs.lemmas.Int.{ints}
use Rattle.std.proofs.lemmas.Bool.{cases_eq, eq-eqb, ne_eqb}
use Rattle.std.proofs.Math.IntN.{*ℤ_comm, +ℤ_assoc}
use Rattle.std.proofs.Math.Nat.{add-zero as nat_add-zero, add-suc as nat_add-suc}
use Rattle.bz_algebra.specs.Sums.{dot, coef, upto, AllBelow}
use Rattle.bz_algebra.proofs.Ring.{*ℤ_assoc, mul_add, add_mul, mul_neg, add_regroup, mul_left, mul_zero, zero_mul, add_zero, zero_add}

-- ---- two sums in one
-- (a + b) + (c + d) = (a' + c') + (b' + d') where a c = .. : the step of most inductions here
pub sum_step : (a b c d e : ℤ) → e ≡ c +ℤ d → (a +ℤ b) +ℤ e ≡ (a +ℤ c) +ℤ (b +ℤ d)
sum_step a b c d e h = omega (arith, ints)

-- ---- dot
pub dot_append : (es gs : List (ℕ × ℤ)) (f : ℕ → ℤ) → dot (es ++ gs) f ≡ dot es f +ℤ dot gs f
dot_append [] gs f = sym (zero_add (dot gs f))
dot_append (e ∷ es) gs f = ap (λ (t : ℤ). (e.1 *ℤ f e.0) +ℤ t) (dot_append es gs f) ∙ sym (+ℤ_assoc (e.1 *ℤ f e.0) (dot es f) (dot gs f))

-- equal functions have equal sums
pub dot_same : (es : List (ℕ × ℤ)) (f g : ℕ → ℤ) → ((i : ℕ) → f i ≡ g i) → dot es f ≡ dot es g
dot_same [] f g h = refl
dot_same (e ∷ es) f g h = rw (h e.0, dot_same es f g h)

-- it is enough that they agree below a bound of the indexes
pub dot_same_below : (n : ℕ) (es : List (ℕ × ℤ)) (f g : ℕ → ℤ) → AllBelow n es → ((i : ℕ) → i < n → f i ≡ g i) → dot es f ≡ dot es g
dot_same_below n [] f g b h = refl
dot_same_below n (e ∷ es) f g b h = rw (h e.0 b.0, dot_same_below n es f g b.1 h)

pub dot_add : (es : List (ℕ × ℤ)) (f g : ℕ → ℤ) → dot es (λ i. f i +ℤ g i) ≡ dot es f +ℤ dot es g
dot_add [] f g = refl
dot_add (e ∷ es) f g = rw (mul_add e.1 (f e.0) (g e.0)) (sum_step (e.1 *ℤ f e.0) (e.1 *ℤ g e.0) (dot es f) (dot es g) _ (dot_add es f g))

pub dot_scale : (es : List (ℕ × ℤ)) (c : ℤ) (f : ℕ → ℤ) → dot es (λ i. c *ℤ f i) ≡ c *ℤ dot es f
dot_scale [] c f = sym (mul_zero c)
dot_scale (e ∷ es) c f = rw (mul_left e.1 c (f e.0), dot_scale es c f) (sym (mul_add c (e.1 *ℤ f e.0) (dot es f)))

-- the factor on the right
pub dot_scale_right : (es : List (ℕ × ℤ)) (f : ℕ → ℤ) (c : ℤ) → dot es (λ i. f i *ℤ c) ≡ dot es f *ℤ c
dot_scale_right es f c = dot_same es _ _ (λ i. *ℤ_comm (f i) c) ∙ dot_scale es c f ∙ *ℤ_comm c (dot es f)

pub dot_neg : (es : List (ℕ × ℤ)) (f : ℕ → ℤ) → dot es (λ i. neg_ℤ (f i)) ≡ neg_ℤ (dot es f)
dot_neg [] f = refl
dot_neg (e ∷ es) f = let h = dot_neg es f in rw (mul_neg e.1 (f e.0)) (omega (arith, ints))

pub dot_sub : (es : List (ℕ × ℤ)) (f g : ℕ → ℤ) → dot es (λ i. f i -ℤ g i) ≡ dot es f -ℤ dot es g
dot_sub es f g = dot_add es f (λ i. neg_ℤ (g i)) ∙ ap (λ (t : ℤ). dot es f +ℤ t) (dot_neg es g)

pub dot_zero : (es : List (ℕ × ℤ)) → dot es (λ i. pos 0) ≡ pos 0
dot_zero [] = refl
dot_zero (e ∷ es) = rw (mul_zero e.1, dot_zero es)

-- the order of two sums doesn't matter
pub dot_swap : (es gs : List (ℕ × ℤ)) (f : ℕ → ℕ → ℤ) → dot es (λ i. dot gs (λ j. f i j)) ≡ dot gs (λ j. dot es (λ i. f i j))
dot_swap [] gs f = sym (dot_zero gs)
dot_swap (e ∷ es) gs f = rw (dot_swap es gs f, ← dot_scale gs e.1 (λ j. f e.0 j)) (sym (dot_add gs (λ j. e.1 *ℤ f e.0 j) (λ j. dot es (λ i. f i j))))

-- ---- upto
pub upto_same : (n : ℕ) (f g : ℕ → ℤ) → ((i : ℕ) → i < n → f i ≡ g i) → upto n f ≡ upto n g
upto_same zero f g h = refl
upto_same (suc n) f g h = rw (h n (omega arith), upto_same n f g (λ i b. h i (omega arith)))

pub upto_add : (n : ℕ) (f g : ℕ → ℤ) → upto n (λ i. f i +ℤ g i) ≡ upto n f +ℤ upto n g
upto_add zero f g = refl
upto_add (suc n) f g = rw (upto_add n f g) (add_regroup (upto n f) (upto n g) (f n) (g n))

pub upto_scale : (n : ℕ) (c : ℤ) (f : ℕ → ℤ) → upto n (λ i. c *ℤ f i) ≡ c *ℤ upto n f
upto_scale zero c f = sym (mul_zero c)
upto_scale (suc n) c f = rw (upto_scale n c f) (sym (mul_add c (upto n f) (f n)))

pub upto_scale_right : (n : ℕ) (f : ℕ → ℤ) (c : ℤ) → upto n (λ i. f i *ℤ c) ≡ upto n f *ℤ c
upto_scale_right zero f c = sym (zero_mul c)
upto_scale_right (suc n) f c = rw (upto_scale_right n f c) (sym (add_mul (upto n f) (f n) c))

pub upto_neg : (n : ℕ) (f : ℕ → ℤ) → upto n (λ i. neg_ℤ (f i)) ≡ neg_ℤ (upto n f)
upto_neg zero f = refl
upto_neg (suc n) f = let h = upto_neg n f in omega (arith, ints)

pub upto_sub : (n : ℕ) (f g : ℕ → ℤ) → upto n (λ i. f i -ℤ g i) ≡ upto n f -ℤ upto n g
upto_sub n f g = upto_add n f (λ i. neg_ℤ (g i)) ∙ ap (λ (t : ℤ). upto n f +ℤ t) (upto_neg n g)

pub upto_zero : (n : ℕ) → upto n (λ i. pos 0) ≡ pos 0
upto_zero zero = refl
upto_zero (suc n) = rw (upto_zero n)

-- a sum of numbers that are all 0
pub upto_zeros : (n : ℕ) (f : ℕ → ℤ) → ((i : ℕ) → i < n → f i ≡ pos 0) → upto n f ≡ pos 0
upto_zeros n f h = upto_same n f (λ i. pos 0) h ∙ upto_zero n

-- a sum of which only the number at k isn't 0
pub upto_only : (n k : ℕ) (f : ℕ → ℤ) → k < n → ((i : ℕ) → i < n → i ≢ k → f i ≡ pos 0) → upto n f ≡ f k
upto_only zero k f b h = absurd (omega arith)
upto_only (suc n) k f b h = elim (cases_eq n k) [ inl e ↦ here e | inr d ↦ earlier d (λ l. upto_only n k f l (λ i m. h i (omega arith))) ]
  where
    here : n ≡ k → upto (suc n) f ≡ f k
    here e = rw (upto_zeros n f (λ i l. h i (omega arith) (λ g. omega arith))) (zero_add (f n) ∙ ap f e)

    earlier : (n ≡ k → ⊥) → (k < n → upto n f ≡ f k) → upto (suc n) f ≡ f k
    earlier d more = rw (h n (omega arith) d, more (omega arith)) (add_zero (f k))

pub upto_le : (n : ℕ) (f g : ℕ → ℤ) → ((i : ℕ) → i < n → (f i) ≤ℤ (g i)) → (upto n f) ≤ℤ (upto n g)
upto_le zero f g h = omega (arith, ints)
upto_le (suc n) f g h = let a = upto_le n f g (λ i b. h i (omega arith)) in let b : (f n) ≤ℤ (g n) = h n (omega arith) in omega (arith, ints)

-- n numbers, then m more
pub upto_split : (n m : ℕ) (f : ℕ → ℤ) → upto (n + m) f ≡ upto n f +ℤ upto m (λ i. f (n + i))
upto_split n zero f = rw nat_add-zero (sym (add_zero (upto n f)))
upto_split n (suc m) f = rw (nat_add-suc, upto_split n m f) (+ℤ_assoc (upto n f) _ (f (n + m)))

-- the order of two sums doesn't matter
pub upto_swap : (n m : ℕ) (f : ℕ → ℕ → ℤ) → upto n (λ i. upto m (λ j. f i j)) ≡ upto m (λ j. upto n (λ i. f i j))
upto_swap zero m f = sym (upto_zero m)
upto_swap (suc n) m f = rw (upto_swap n m f) (sym (upto_add m (λ j. upto n (λ i. f i j)) (λ j. f n j)))

-- a combination of m rows, at f, is the same combination of the rows at f
pub upto_rows : (n m : ℕ) (y : ℕ → ℤ) (e : ℕ → ℕ → ℤ) (f : ℕ → ℤ) → upto n (λ j. upto m (λ i. y i *ℤ e i j) *ℤ f j) ≡ upto m (λ i. y i *ℤ upto n (λ j. e i j *ℤ f j))
upto_rows n m y e f =
    upto_same n _ _ (λ j b. sym (upto_scale_right m (λ i. y i *ℤ e i j) (f j)))
    ∙ upto_swap n m (λ j i. (y i *ℤ e i j) *ℤ f j)
    ∙ upto_same m _ _ (λ i b. upto_same n _ _ (λ j l. *ℤ_assoc (y i) (e i j) (f j)) ∙ upto_scale n (y i) (λ j. e i j *ℤ f j))

pub dot_upto : (es : List (ℕ × ℤ)) (n : ℕ) (f : ℕ → ℕ → ℤ) → dot es (λ r. upto n (λ i. f r i)) ≡ upto n (λ i. dot es (λ r. f r i))
dot_upto es zero f = dot_zero es
dot_upto es (suc n) f = dot_add es (λ r. upto n (λ i. f r i)) (λ r. f r n) ∙ ap (λ (t : ℤ). t +ℤ dot es (λ r. f r n)) (dot_upto es n f)

-- a combination of rows, at a point, is the same combination of the rows at the point
pub upto_dot : (mu : List (ℕ × ℤ)) (n : ℕ) (row : ℕ → ℕ → ℤ) (x : ℕ → ℤ) → upto n (λ i. dot mu (λ r. row r i) *ℤ x i) ≡ dot mu (λ r. upto n (λ i. row r i *ℤ x i))
upto_dot mu n row x = upto_same n _ _ (λ i b. sym (dot_scale_right mu (λ r. row r i) (x i))) ∙ sym (dot_upto mu n (λ r i. row r i *ℤ x i))

-- ---- coef
pub coef_append : (es gs : List (ℕ × ℤ)) (j : ℕ) → coef (es ++ gs) j ≡ coef es j +ℤ coef gs j
coef_append [] gs j = sym (zero_add (coef gs j))
coef_append (e ∷ es) gs j = rw (coef_append es gs j) (sym (+ℤ_assoc _ (coef es j) (coef gs j)))

-- the numbers that are v at the index k and 0 elsewhere
pub single : ℕ → ℤ → ℕ → ℤ
single k v j = cond (eqb k j) v (pos 0)

pub single_at : (k : ℕ) (v : ℤ) → single k v k ≡ v
unfolding single
single_at k v = rw (eq-eqb k k refl)

pub single_off : (k : ℕ) (v : ℤ) (j : ℕ) → (k ≡ j → ⊥) → single k v j ≡ pos 0
unfolding single
single_off k v j n = rw (ne_eqb k j n)

pub coef_cons : (e : ℕ × ℤ) (es : List (ℕ × ℤ)) (j : ℕ) → coef (e ∷ es) j ≡ single e.0 e.1 j +ℤ coef es j
unfolding single
coef_cons e es j = refl

pub coef_single : (k : ℕ) (v : ℤ) → coef ((k, v) ∷ []) k ≡ v
coef_single k v = rw (coef_cons (k, v) [] k, single_at k v) (add_zero v)

pub single_sum : (n k : ℕ) (v : ℤ) (f : ℕ → ℤ) → k < n → upto n (λ i. single k v i *ℤ f i) ≡ v *ℤ f k
single_sum n k v f b = upto_only n k _ b (λ i l d. rw (single_off k v i (λ e. d (sym e))) (zero_mul (f i))) ∙ rw (single_at k v)

-- a sum over a sparse list is the sum over all indexes below a bound of its own
pub dot_all : (n : ℕ) (es : List (ℕ × ℤ)) (f : ℕ → ℤ) → AllBelow n es → dot es f ≡ upto n (λ i. coef es i *ℤ f i)
dot_all n [] f b = sym (upto_zeros n _ (λ i l. zero_mul (f i)))
dot_all n (e ∷ es) f b =
    rw (dot_all n es f b.1, ← single_sum n e.0 e.1 f b.0)
    (sym (upto_add n (λ i. single e.0 e.1 i *ℤ f i) (λ i. coef es i *ℤ f i))
    ∙ upto_same n _ _ (λ i l. sym (add_mul (single e.0 e.1 i) (coef es i) (f i)) ∙ ap (λ (t : ℤ). t *ℤ f i) (sym (coef_cons e es i))))

-- beyond the indexes the coefficient is 0
pub coef_beyond : (n : ℕ) (es : List (ℕ × ℤ)) (j : ℕ) → AllBelow n es → n ≤ j → coef es j ≡ pos 0
coef_beyond n [] j b h = refl
coef_beyond n (e ∷ es) j b h = rw (coef_cons e es j, single_off e.0 e.1 j (apart b.0), coef_beyond n es j b.1 h)
  where
    apart : e.0 < n → e.0 ≡ j → ⊥
    apart l g = omega arith
