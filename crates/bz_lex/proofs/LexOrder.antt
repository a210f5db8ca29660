-- Laws of the lexicographic order: positive sums and multiples, and that of two rows one is above the other or they are level.
use Rattle.std.specs.Prelude.{ℕ, zero, suc, ◌<◌, ◌≤◌, ◌≡◌, ℤ, pos, ◌+ℤ◌, ◌-ℤ◌, ◌*ℤ◌, neg_ℤ, ◌≤ℤ◌, ◌<ℤ◌}
use Rattle.std.proofs.Common.{ap, sym, subst, ◌∙◌, arith}
use Rattle.std.proofs.lemmas.Int.{ints}
use Rattle.bz_algebra.proofs.Bounded.{by_lt, by_order, below_suc}
use Rattle.bz_algebra.proofs.Ring.{as_diff, diff_add, diff_neg, diff_mul, diff_same, mul_zero, other_zero, positive-ne, mul_positive, cancel_lt_left, by_sign, neg_positive, one_mul}
use Rattle.bz_lex.specs.Lexicographic.{IsLexPositive, AreZeros, lead, IsAbove, AreLevel}

-- ---- positive in the order
-- in more places
pub positive_from : (m n : ℕ) (x : ℕ → ℤ) → m ≤ n → IsLexPositive m x → IsLexPositive n x
positive_from m n x l p = record { place = p.place; inside = omega (arith, p.inside); positive = p.positive; before = p.before }

-- without a last number that is 0
pub positive_short : (n : ℕ) (x : ℕ → ℤ) → x n ≡ pos 0 → IsLexPositive (suc n) x → IsLexPositive n x
positive_short n x e p = by_lt p.place n
    (λ l. record { place = p.place; inside = l; positive = p.positive; before = p.before })
    (λ l. absurd (positive-ne (x p.place) p.positive (subst (λ (k : ℕ). x k ≡ pos 0) (last l) e)))
  where
    last : n ≤ p.place → n ≡ p.place
    last l = omega (arith, p.inside)

-- numbers of which positive multiples are the same
pub positive_multiple : (n : ℕ) (a b : ℤ) (x y : ℕ → ℤ) → (pos 0) <ℤ a → (pos 0) <ℤ b → ((k : ℕ) → k < n → a *ℤ y k ≡ b *ℤ x k) → IsLexPositive n x → IsLexPositive n y
positive_multiple n a b x y ha hb h p = record {
  place = p.place;
  inside = p.inside;
  positive = cancel_lt_left a (pos 0) (y p.place) (omega (arith, ints)) (omega (arith, ints, mul_zero a, h p.place p.inside, mul_positive b (x p.place) hb p.positive));
  before = λ k l. other_zero a (y k) (positive-ne a ha) (h k (omega (arith, p.inside)) ∙ ap (λ (t : ℤ). b *ℤ t) (p.before k l) ∙ mul_zero b);
}

pub positive_same : (n : ℕ) (x y : ℕ → ℤ) → ((k : ℕ) → k < n → y k ≡ x k) → IsLexPositive n x → IsLexPositive n y
positive_same n x y h = positive_multiple n (pos 1) (pos 1) x y (omega (arith, ints)) (omega (arith, ints)) (λ k l. ap (λ (t : ℤ). pos 1 *ℤ t) (h k l))

pub positive_scale : (n : ℕ) (a : ℤ) (x : ℕ → ℤ) → (pos 0) <ℤ a → IsLexPositive n x → IsLexPositive n (λ k. a *ℤ x k)
positive_scale n a x h p = record {
  place = p.place;
  inside = p.inside;
  positive = mul_positive a (x p.place) h p.positive;
  before = λ k l. ap (λ (t : ℤ). a *ℤ t) (p.before k l) ∙ mul_zero a;
}

both : (x y : ℤ) → x ≡ pos 0 → y ≡ pos 0 → x +ℤ y ≡ pos 0
both x y e f = omega (arith, ints)

pub positive_sum : (n : ℕ) (x y : ℕ → ℤ) → IsLexPositive n x → IsLexPositive n y → IsLexPositive n (λ k. x k +ℤ y k)
positive_sum n x y p q = by_order p.place q.place
    (λ l. record {
      place = p.place;
      inside = p.inside;
      positive = omega (arith, ints, p.positive, q.before p.place l);
      before = λ k m. both (x k) (y k) (p.before k m) (q.before k (omega arith));
    })
    (λ e. record {
      place = p.place;
      inside = p.inside;
      positive = omega (arith, ints, p.positive, subst (λ (k : ℕ). (pos 0) <ℤ (y k)) (sym e) q.positive);
      before = λ k m. both (x k) (y k) (p.before k m) (q.before k (omega arith));
    })
    (λ l. record {
      place = q.place;
      inside = q.inside;
      positive = omega (arith, ints, q.positive, p.before q.place l);
      before = λ k m. both (x k) (y k) (p.before k (omega arith)) (q.before k m);
    })

-- and not 0 everywhere
pub positive_not_zeros : (n : ℕ) (x : ℕ → ℤ) → IsLexPositive n x → AreZeros n x → ⊥
positive_not_zeros n x p z = positive-ne (x p.place) p.positive (z p.place p.inside)

-- nor positive with the other sign
pub positive_not_negative : (n : ℕ) (x : ℕ → ℤ) → IsLexPositive n x → IsLexPositive n (λ k. neg_ℤ (x k)) → ⊥
positive_not_negative n x p q = positive_not_zeros n (λ k. x k +ℤ neg_ℤ (x k)) (positive_sum n x (λ k. neg_ℤ (x k)) p q) (λ k l. omega (arith, ints))

-- numbers are positive in the order, all 0, or positive with the other sign
pub by_first : {P : Type 0} (n : ℕ) (x : ℕ → ℤ) → (IsLexPositive n x → P) → (AreZeros n x → P) → (IsLexPositive n (λ k. neg_ℤ (x k)) → P) → P
by_first zero x f g h = g (λ k l. absurd (omega arith))
by_first (suc n) x f g h = by_first n x
    (λ p. f (positive_from n (suc n) x (omega arith) p))
    (λ z. by_sign (x n)
    (λ m. h (record { place = n; inside = omega arith; positive = neg_positive (x n) m; before = λ k l. ap neg_ℤ (z k l) }))
    (λ e. g (below_suc n (λ k. x k ≡ pos 0) z e))
    (λ m. f (record { place = n; inside = omega arith; positive = m; before = z })))
    (λ p. h (positive_from n (suc n) (λ k. neg_ℤ (x k)) (omega arith) p))

-- ---- above
-- no row is above itself
pub not_above_itself : (n : ℕ) (places : ℕ → ℕ) (c : ℕ) (v : ℕ → ℤ) → IsAbove n places c v v → ⊥
not_above_itself n places c v a = positive_not_zeros n (lead places c v v) a (λ k l. crossed_same (v c) (v (places k)))
  where
    crossed_same : (a b : ℤ) → (a *ℤ b) -ℤ (a *ℤ b) ≡ pos 0
    crossed_same a b = omega (arith, ints)

-- nor above one that is the same at the places and at c
pub not_above_same : (n : ℕ) (places : ℕ → ℕ) (c : ℕ) (v w : ℕ → ℤ) → w c ≡ v c → ((k : ℕ) → k < n → w (places k) ≡ v (places k)) → IsAbove n places c v w → ⊥
not_above_same n places c v w e h a = positive_not_zeros n (lead places c v w) a (λ k l. same (w c) (v (places k)) (v c) (w (places k)) e (h k l))
  where
    same : (a b x y : ℤ) → a ≡ x → y ≡ b → (a *ℤ b) -ℤ (x *ℤ y) ≡ pos 0
    same a b x y e f = rw (e, f) (omega (arith, ints))

lead_back : (a b x y : ℤ) → (a *ℤ x) -ℤ (b *ℤ y) ≡ neg_ℤ ((b *ℤ y) -ℤ (a *ℤ x))
lead_back a b x y = omega (arith, ints)

-- two rows aren't above one another
pub not_above_below : (n : ℕ) (places : ℕ → ℕ) (c : ℕ) (v w : ℕ → ℤ) → IsAbove n places c v w → IsAbove n places c w v → ⊥
not_above_below n places c v w a b = positive_not_negative n (lead places c v w) a (positive_same n (lead places c w v) (λ k. neg_ℤ (lead places c v w k)) (λ k l. sym (lead_back (v c) (w c) (w (places k)) (v (places k)))) b)

-- b (c x - a z) = c (b x - a y) + a (c y - b z)
lead_chain : (a b c x y z : ℤ) → b *ℤ ((c *ℤ x) -ℤ (a *ℤ z)) ≡ (c *ℤ ((b *ℤ x) -ℤ (a *ℤ y))) +ℤ (a *ℤ ((c *ℤ y) -ℤ (b *ℤ z)))
lead_chain a b c x y z = rw (as_diff a, as_diff b, as_diff c, as_diff x, as_diff y, as_diff z) (simp (diff_add, diff_neg, diff_mul) (diff_same _ _ _ _ (omega arith)))

-- what is above a row that is above another is above that one
pub above_trans : (n : ℕ) (places : ℕ → ℕ) (c : ℕ) (u v w : ℕ → ℤ) → (pos 0) <ℤ (u c) → (pos 0) <ℤ (v c) → (pos 0) <ℤ (w c) → IsAbove n places c u v → IsAbove n places c v w → IsAbove n places c u w
above_trans n places c u v w hu hv hw a b = positive_multiple n (v c) (pos 1) (λ k. (w c *ℤ lead places c u v k) +ℤ (u c *ℤ lead places c v w k)) (lead places c u w) hv (omega (arith, ints))
    (λ k l. lead_chain (u c) (v c) (w c) (u (places k)) (v (places k)) (w (places k)) ∙ sym (one_mul _))
    (positive_sum n (λ k. w c *ℤ lead places c u v k) (λ k. u c *ℤ lead places c v w k) (positive_scale n (w c) (lead places c u v) hw a) (positive_scale n (u c) (lead places c v w) hu b))

-- of two rows one is above the other, or they are level
pub by_above : {P : Type 0} (n : ℕ) (places : ℕ → ℕ) (c : ℕ) (v w : ℕ → ℤ) → (IsAbove n places c v w → P) → (AreLevel n places c v w → P) → (IsAbove n places c w v → P) → P
by_above n places c v w f g h = by_first n (lead places c v w) f g (λ p. h (positive_same n (λ k. neg_ℤ (lead places c v w k)) (lead places c w v) (λ k l. lead_back (v c) (w c) (w (places k)) (v (places k))) p))

-- what is positive in an order that begins with the right side has a right side that isn't negative
pub positive_start : (n : ℕ) (x : ℕ → ℤ) → IsLexPositive n x → (pos 0) ≤ℤ (x 0)
positive_start n x p = start p.place p.positive p.before
  where
    start : (place : ℕ) → (pos 0) <ℤ (x place) → ((k : ℕ) → k < place → x k ≡ pos 0) → (pos 0) ≤ℤ (x 0)
    start zero h z = omega (arith, ints)
    start (suc place) h z = omega (arith, ints, z 0 (omega arith))

-- where two rows first differ, one is above the other
pub above_at : (n : ℕ) (places : ℕ → ℕ) (c : ℕ) (v w : ℕ → ℤ) (k : ℕ) → k < n → (pos 0) <ℤ (lead places c v w k) → AreLevel k places c v w → IsAbove n places c v w
above_at n places c v w k l h z = record { place = k; inside = l; positive = h; before = z }

pub below_at : (n : ℕ) (places : ℕ → ℕ) (c : ℕ) (v w : ℕ → ℤ) (k : ℕ) → k < n → (lead places c v w k) <ℤ (pos 0) → AreLevel k places c v w → IsAbove n places c w v
below_at n places c v w k l h z = record {
  place = k;
  inside = l;
  positive = subst (λ (t : ℤ). (pos 0) <ℤ t) (sym (lead_back (v c) (w c) (w (places k)) (v (places k)))) (neg_positive (lead places c v w k) h);
  before = λ i m. lead_back (v c) (w c) (w (places i)) (v (places i)) ∙ ap neg_ℤ (z i m);
}

-- rows with the same numbers at the places and in the column
pub above_same : (n : ℕ) (places others : ℕ → ℕ) (c d : ℕ) (v w x y : ℕ → ℤ) → x d ≡ v c → y d ≡ w c → ((k : ℕ) → k < n → x (others k) ≡ v (places k)) → ((k : ℕ) → k < n → y (others k) ≡ w (places k)) → IsAbove n places c v w → IsAbove n others d x y
above_same n places others c d v w x y e f g h a = positive_same n (lead places c v w) (lead others d x y) (λ k l i. (f i *ℤ g k l i) -ℤ (e i *ℤ h k l i)) a

pub level_same : (n : ℕ) (places others : ℕ → ℕ) (c d : ℕ) (v w x y : ℕ → ℤ) → x d ≡ v c → y d ≡ w c → ((k : ℕ) → k < n → x (others k) ≡ v (places k)) → ((k : ℕ) → k < n → y (others k) ≡ w (places k)) → AreLevel n places c v w → AreLevel n others d x y
level_same n places others c d v w x y e f g h a k l = (λ i. (f i *ℤ g k l i) -ℤ (e i *ℤ h k l i)) ∙ a k l
