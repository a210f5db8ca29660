-- Combinations of the rows of equations: they are closed under sums and multiples, and one without multipliers is 0.
use Rattle.std.specs.Prelude.{ℕ, zero, suc, ◌+◌, ◌-◌, ◌<◌, ◌≤◌, ◌≡◌, ◌≢◌, ℤ, pos, ◌+ℤ◌, ◌-ℤ◌, ◌*ℤ◌, neg_ℤ}
use Rattle.std.proofs.Common.{ap, sym, ◌∙◌, subst, arith}
use Rattle.bz_algebra.specs.Sums.{upto}
use Rattle.bz_algebra.specs.Tableaus.{Equations, side, IsCombination}
use Rattle.bz_algebra.proofs.Bounded.{by_lt}
use Rattle.bz_algebra.proofs.Ring.{*ℤ_assoc, add_mul, neg_mul, zero_mul, cancel_left}
use Rattle.bz_algebra.proofs.SumLemmas.{upto_same, upto_add, upto_scale, upto_zeros}

-- a property of each entry: of the columns before the slacks, of the slacks and of the right side
pub each_entry : (s : Equations) (P : ℕ → Type 0) → ((j : ℕ) → j < s.slack → P j) → ((i : ℕ) → i < s.rows → P (s.slack + i)) → P (side s) → (j : ℕ) → j ≤ side s → P j
each_entry s P before slacks right j b = by_lt j s.slack (before j)
    (λ h. by_lt j (side s)
    (λ l. subst P (again h) (slacks (j - s.slack) (omega arith)))
    (λ l. subst P (end l) right))
  where
    again : s.slack ≤ j → s.slack + (j - s.slack) ≡ j
    again h = omega arith

    end : side s ≤ j → side s ≡ j
    end l = omega arith

scaled : (n : ℕ) (c x : ℤ) (y e : ℕ → ℤ) → x ≡ upto n (λ i. y i *ℤ e i) → c *ℤ x ≡ upto n (λ i. (c *ℤ y i) *ℤ e i)
scaled n c x y e h = ap (λ (t : ℤ). c *ℤ t) h ∙ sym (upto_scale n c (λ i. y i *ℤ e i)) ∙ upto_same n _ _ (λ i b. sym (*ℤ_assoc c (y i) (e i)))

added : (n : ℕ) (x x' : ℤ) (y y' e : ℕ → ℤ) → x ≡ upto n (λ i. y i *ℤ e i) → x' ≡ upto n (λ i. y' i *ℤ e i) → x +ℤ x' ≡ upto n (λ i. (y i +ℤ y' i) *ℤ e i)
added n x x' y y' e h h' = (λ k. h k +ℤ h' k) ∙ sym (upto_add n (λ i. y i *ℤ e i) (λ i. y' i *ℤ e i)) ∙ upto_same n _ _ (λ i b. sym (add_mul (y i) (y' i) (e i)))

divided : (n : ℕ) (h x x' : ℤ) (y y' e : ℕ → ℤ) → h ≢ pos 0 → h *ℤ x' ≡ x → ((i : ℕ) → i < n → h *ℤ y' i ≡ y i) → x ≡ upto n (λ i. y i *ℤ e i) → x' ≡ upto n (λ i. y' i *ℤ e i)
divided n h x x' y y' e ne f g k = cancel_left h x' _ ne
    (f ∙ k ∙ upto_same n _ _ (λ i b. ap (λ (t : ℤ). t *ℤ e i) (sym (g i b)) ∙ *ℤ_assoc h (y' i) (e i)) ∙ upto_scale n h (λ i. y' i *ℤ e i))

-- vectors that agree up to the right side are combinations alike
pub combination_same : (s : Equations) (v w : ℕ → ℤ) → ((j : ℕ) → j ≤ side s → w j ≡ v j) → IsCombination s v → IsCombination s w
combination_same s v w e h = record {
  columns = λ j b. e j (omega arith) ∙ h.columns j b ∙ upto_same s.rows _ _ (λ i l. ap (λ (t : ℤ). t *ℤ s.entry i j) (sym (e (s.slack + i) (omega arith))));
  right = e (side s) (omega arith) ∙ h.right ∙ upto_same s.rows _ _ (λ i l. ap (λ (t : ℤ). t *ℤ s.right i) (sym (e (s.slack + i) (omega arith))));
}

-- a multiple of a combination
pub combination_scale : (s : Equations) (c : ℤ) (v : ℕ → ℤ) → IsCombination s v → IsCombination s (λ j. c *ℤ v j)
combination_scale s c v h = record {
  columns = λ j b. scaled s.rows c (v j) (λ i. v (s.slack + i)) (λ i. s.entry i j) (h.columns j b);
  right = scaled s.rows c (v (side s)) (λ i. v (s.slack + i)) s.right h.right;
}

pub combination_add : (s : Equations) (v w : ℕ → ℤ) → IsCombination s v → IsCombination s w → IsCombination s (λ j. v j +ℤ w j)
combination_add s v w h k = record {
  columns = λ j b. added s.rows (v j) (w j) (λ i. v (s.slack + i)) (λ i. w (s.slack + i)) (λ i. s.entry i j) (h.columns j b) (k.columns j b);
  right = added s.rows (v (side s)) (w (side s)) (λ i. v (s.slack + i)) (λ i. w (s.slack + i)) s.right h.right k.right;
}

pub combination_zero : (s : Equations) → IsCombination s (λ j. pos 0)
combination_zero s = record {
  columns = λ j b. sym (upto_zeros s.rows _ (λ i l. zero_mul (s.entry i j)));
  right = sym (upto_zeros s.rows _ (λ i l. zero_mul (s.right i)));
}

-- a sum of multiples of combinations
pub combination_upto : (s : Equations) (n : ℕ) (c : ℕ → ℤ) (w : ℕ → ℕ → ℤ) → ((i : ℕ) → i < n → IsCombination s (w i)) → IsCombination s (λ j. upto n (λ i. c i *ℤ w i j))
combination_upto s zero c w h = combination_zero s
combination_upto s (suc n) c w h = combination_add s _ _ (combination_upto s n c w (λ i b. h i (omega arith))) (combination_scale s (c n) (w n) (h n (omega arith)))

-- the combination a v - b w
pub combination_sub : (s : Equations) (a b : ℤ) (v w : ℕ → ℤ) → IsCombination s v → IsCombination s w → IsCombination s (λ j. (a *ℤ v j) -ℤ (b *ℤ w j))
combination_sub s a b v w h k = combination_same s _ _ (λ j l. ap (λ (t : ℤ). (a *ℤ v j) +ℤ t) (sym (neg_mul b (w j))))
    (combination_add s _ _ (combination_scale s a v h) (combination_scale s (neg_ℤ b) w k))

-- v where h v is a combination and h isn't 0
pub combination_divide : (s : Equations) (h : ℤ) (v w : ℕ → ℤ) → h ≢ pos 0 → ((j : ℕ) → j ≤ side s → h *ℤ w j ≡ v j) → IsCombination s v → IsCombination s w
combination_divide s h v w ne e k = record {
  columns = λ j b. divided s.rows h (v j) (w j) (λ i. v (s.slack + i)) (λ i. w (s.slack + i)) (λ i. s.entry i j) ne (e j (omega arith)) (λ i l. e (s.slack + i) (omega arith)) (k.columns j b);
  right = divided s.rows h (v (side s)) (w (side s)) (λ i. v (s.slack + i)) (λ i. w (s.slack + i)) s.right ne (e (side s) (omega arith)) (λ i l. e (s.slack + i) (omega arith)) k.right;
}

-- a combination with no multipliers
pub without_multipliers : (s : Equations) (v : ℕ → ℤ) → IsCombination s v → ((i : ℕ) → i < s.rows → v (s.slack + i) ≡ pos 0) → (j : ℕ) → j ≤ side s → v j ≡ pos 0
without_multipliers s v h z = each_entry s (λ j. v j ≡ pos 0)
    (λ j b. h.columns j b ∙ none (λ i. s.entry i j))
    z
    (h.right ∙ none s.right)
  where
    none : (e : ℕ → ℤ) → upto s.rows (λ i. v (s.slack + i) *ℤ e i) ≡ pos 0
    none e = upto_zeros s.rows _ (λ i l. rw (z i l) (zero_mul (e i)))
