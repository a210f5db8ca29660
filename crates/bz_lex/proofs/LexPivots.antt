-- What a pivot on the leaving row does in the order: the rows stay positive, and the objective row rises.
use Rattle.std.specs.Prelude.{ℕ, ◌<◌, ◌≤◌, ◌≡◌, ◌≢◌, ℤ, pos, ◌+ℤ◌, ◌-ℤ◌, ◌*ℤ◌, neg_ℤ, ◌<ℤ◌}
use Rattle.std.proofs.Common.{ap, sym, subst, ◌∙◌, arith, inl, inr}
use Rattle.std.proofs.Math.IntN.{*ℤ_comm}
use Rattle.std.proofs.lemmas.Bool.{cases_eq}
use Rattle.std.proofs.lemmas.Int.{ints}
use Rattle.bz_algebra.specs.Tableaus.{Equations, side, IsTableau, IsPivot, Made}
use Rattle.bz_algebra.proofs.Pivoting.{made, moved_same, pivot}
use Rattle.bz_algebra.proofs.Ring.{as_diff, diff_add, diff_neg, diff_mul, diff_same, mul_zero, zero_mul, neg_mul, mul_neg, one_mul, other_zero, positive-ne, mul_positive, cancel_lt_left, by_sign, neg_positive, *ℤ_assoc}
use Rattle.bz_lex.specs.Lexicographic.{AreInRange, IsLexPositive, read, lead, IsAbove, AreLexPositive, IsLeaving}
use Rattle.bz_lex.proofs.LexOrder.{positive_multiple, positive_same, positive_scale, positive_sum}

-- ---- numbers
-- the row is taken with the sign of its entry
zero_taken : (kept old taken pivot : ℤ) → kept *ℤ old ≡ taken *ℤ pivot → (pos 0) <ℤ pivot → old ≡ pos 0 → taken ≡ pos 0
zero_taken kept old taken pivot e h z = other_zero pivot taken (positive-ne pivot h) (*ℤ_comm pivot taken ∙ sym e ∙ ap (λ (t : ℤ). kept *ℤ t) z ∙ mul_zero kept)

negative_taken : (kept old taken pivot : ℤ) → kept *ℤ old ≡ taken *ℤ pivot → (pos 0) <ℤ pivot → (pos 0) <ℤ kept → old <ℤ (pos 0) → (pos 0) <ℤ (neg_ℤ taken)
negative_taken kept old taken pivot e h k l = cancel_lt_left pivot (pos 0) (neg_ℤ taken) (omega (arith, ints)) (subst (λ (t : ℤ). t <ℤ (pivot *ℤ neg_ℤ taken)) (sym (mul_zero pivot)) (subst (λ (t : ℤ). (pos 0) <ℤ t) (flipped kept old taken pivot e) (mul_positive kept (neg_ℤ old) k (neg_positive old l))))
  where
    flipped : (a b c d : ℤ) → a *ℤ b ≡ c *ℤ d → a *ℤ neg_ℤ b ≡ d *ℤ neg_ℤ c
    flipped a b c d f = mul_neg a b ∙ ap neg_ℤ (f ∙ *ℤ_comm c d) ∙ sym (mul_neg d c)

without_pivot : (h x a y b z : ℤ) → h *ℤ x ≡ (a *ℤ y) -ℤ (b *ℤ z) → b ≡ pos 0 → h *ℤ x ≡ a *ℤ y
without_pivot h x a y b z e f = omega (arith, ints, zero_mul z, ap (λ (t : ℤ). t *ℤ z) f)

with_pivot : (h x a y b z : ℤ) → h *ℤ x ≡ (a *ℤ y) -ℤ (b *ℤ z) → h *ℤ x ≡ (a *ℤ y) +ℤ (neg_ℤ b *ℤ z)
with_pivot h x a y b z e = omega (arith, ints, neg_mul b z)

-- p (a y - b z) = a (p y - q z) where a q = b p
crossed_out : (p q a b y z : ℤ) → a *ℤ q ≡ b *ℤ p → p *ℤ ((a *ℤ y) -ℤ (b *ℤ z)) ≡ a *ℤ ((p *ℤ y) -ℤ (q *ℤ z))
crossed_out p q a b y z e = first p a b y z ∙ ap (λ (t : ℤ). (a *ℤ (p *ℤ y)) -ℤ (t *ℤ z)) (sym e) ∙ second p q a y z
  where
    first : (p a b y z : ℤ) → p *ℤ ((a *ℤ y) -ℤ (b *ℤ z)) ≡ (a *ℤ (p *ℤ y)) -ℤ ((b *ℤ p) *ℤ z)
    first p a b y z = rw (as_diff p, as_diff a, as_diff b, as_diff y, as_diff z) (simp (diff_add, diff_neg, diff_mul) (diff_same _ _ _ _ (omega arith)))

    second : (p q a y z : ℤ) → (a *ℤ (p *ℤ y)) -ℤ ((a *ℤ q) *ℤ z) ≡ a *ℤ ((p *ℤ y) -ℤ (q *ℤ z))
    second p q a y z = rw (as_diff p, as_diff q, as_diff a, as_diff y, as_diff z) (simp (diff_add, diff_neg, diff_mul) (diff_same _ _ _ _ (omega arith)))

-- ---- kept
-- a cleared row stays positive: it was only scaled, it was added to the pivot row, or it is what it was above the pivot row
pub cleared_positive : (s : Equations) (old pivot : ℕ → ℤ) (e : ℕ) (new : ℕ → ℤ) (n : ℕ) (places : ℕ → ℕ) → Made s old pivot e new → AreInRange s n places → (pos 0) <ℤ (pivot e)
    → IsLexPositive n (read places old) → IsLexPositive n (read places pivot) → ((pos 0) <ℤ (old e) → IsAbove n places e old pivot) → IsLexPositive n (read places new)
cleared_positive s old pivot e new n places m r h p q above = by_sign (old e)
    (λ l. positive_multiple n m.times (pos 1) (λ k. (m.kept *ℤ old (places k)) +ℤ (neg_ℤ m.taken *ℤ pivot (places k))) (read places new) m.times_positive (omega (arith, ints))
    (λ k b. with_pivot m.times (new (places k)) m.kept (old (places k)) m.taken (pivot (places k)) (m.cleared.made (places k) (r k b)) ∙ sym (one_mul _))
    (positive_sum n (λ k. m.kept *ℤ old (places k)) (λ k. neg_ℤ m.taken *ℤ pivot (places k)) (positive_scale n m.kept (read places old) m.kept_positive p) (positive_scale n (neg_ℤ m.taken) (read places pivot) (negative_taken m.kept (old e) m.taken (pivot e) m.cleared.clears h m.kept_positive l) q)))
    (λ z. positive_multiple n m.times m.kept (read places old) (read places new) m.times_positive m.kept_positive
    (λ k b. without_pivot m.times (new (places k)) m.kept (old (places k)) m.taken (pivot (places k)) (m.cleared.made (places k) (r k b)) (zero_taken m.kept (old e) m.taken (pivot e) m.cleared.clears h z))
    p)
    (λ l. positive_multiple n (pivot e *ℤ m.times) m.kept (lead places e old pivot) (read places new) (mul_positive (pivot e) m.times h m.times_positive) m.kept_positive
    (λ k b. *ℤ_assoc (pivot e) m.times (new (places k)) ∙ ap (λ (t : ℤ). pivot e *ℤ t) (m.cleared.made (places k) (r k b)) ∙ crossed_out (pivot e) (old e) m.kept m.taken (old (places k)) (pivot (places k)) m.cleared.clears)
    (above l))

-- after a pivot on the leaving row each of the first `count` rows is positive again
pub kept_positive : (s : Equations) (basis : ℕ → ℕ) (w : ℕ → ℕ → ℤ) (r e : ℕ) (v : ℕ → ℕ → ℤ) (count n : ℕ) (places : ℕ → ℕ) → IsTableau s basis w → IsPivot s basis w r e v → count ≤ s.rows → AreInRange s n places
    → IsLeaving count n places w e r → AreLexPositive count n places w → AreLexPositive count n places v
kept_positive s basis w r e v count n places t p l a g h i b = elim (cases_eq i r) [
  | inl f ↦ subst (λ (k : ℕ). IsLexPositive n (read places (v k))) (sym f) (positive_same n (read places (w r)) (read places (v r)) (λ k c. moved_same s basis w r e v t p g.positive (places k) (a k c)) (h r g.inside))
  | inr d ↦ cleared_positive s (w i) (w r) e (v i) n places (made s basis w r e v t p i (omega arith) d) a g.positive (h i b) (h r g.inside) (g.below i b d)
]

-- ---- moved
-- h (x' y - x y') where h x' = a x and h y' = a y - b z
risen : (h x x' y y' a b z : ℤ) → h *ℤ x' ≡ a *ℤ x → h *ℤ y' ≡ (a *ℤ y) -ℤ (b *ℤ z) → h *ℤ ((x *ℤ y') -ℤ (x' *ℤ y)) ≡ (x *ℤ neg_ℤ b) *ℤ z
risen h x x' y y' a b z e f = first h x x' y y' ∙ (λ i. (x *ℤ f i) -ℤ (e i *ℤ y)) ∙ second x y a b z
  where
    first : (h x x' y y' : ℤ) → h *ℤ ((x *ℤ y') -ℤ (x' *ℤ y)) ≡ (x *ℤ (h *ℤ y')) -ℤ ((h *ℤ x') *ℤ y)
    first h x x' y y' = rw (as_diff h, as_diff x, as_diff x', as_diff y, as_diff y') (simp (diff_add, diff_neg, diff_mul) (diff_same _ _ _ _ (omega arith)))

    second : (x y a b z : ℤ) → (x *ℤ ((a *ℤ y) -ℤ (b *ℤ z))) -ℤ ((a *ℤ x) *ℤ y) ≡ (x *ℤ neg_ℤ b) *ℤ z
    second x y a b z = rw (as_diff x, as_diff y, as_diff a, as_diff b, as_diff z) (simp (diff_add, diff_neg, diff_mul) (diff_same _ _ _ _ (omega arith)))

own_kept : (h x' a x b z : ℤ) → h *ℤ x' ≡ (a *ℤ x) -ℤ (b *ℤ z) → z ≡ pos 0 → h *ℤ x' ≡ a *ℤ x
own_kept h x' a x b z e f = omega (arith, ints, mul_zero b, ap (λ (t : ℤ). b *ℤ t) f)

-- a row that is negative in the entering column rises, scaled to its own column
pub cleared_above : (s : Equations) (old pivot : ℕ → ℤ) (e c : ℕ) (new : ℕ → ℤ) (n : ℕ) (places : ℕ → ℕ) → Made s old pivot e new → AreInRange s n places → c ≤ side s → (pos 0) <ℤ (pivot e) → old e <ℤ (pos 0)
    → (pos 0) <ℤ (old c) → pivot c ≡ pos 0 → IsLexPositive n (read places pivot) → IsAbove n places c new old
cleared_above s old pivot e c new n places m r b h l o z q = positive_multiple n m.times (old c *ℤ neg_ℤ m.taken) (read places pivot) (lead places c new old) m.times_positive
    (mul_positive (old c) (neg_ℤ m.taken) o (negative_taken m.kept (old e) m.taken (pivot e) m.cleared.clears h m.kept_positive l))
    (λ k d. risen m.times (old c) (new c) (old (places k)) (new (places k)) m.kept m.taken (pivot (places k)) (own_kept m.times (new c) m.kept (old c) m.taken (pivot c) (m.cleared.made c b) z) (m.cleared.made (places k) (r k d)))
    q

-- after a pivot on a positive row the row at another place, negative in the entering column, is above what it was
pub moved_above : (s : Equations) (basis : ℕ → ℕ) (w : ℕ → ℕ → ℤ) (r e : ℕ) (v : ℕ → ℕ → ℤ) (o n : ℕ) (places : ℕ → ℕ) → IsTableau s basis w → IsPivot s basis w r e v → o < s.rows → o ≢ r → AreInRange s n places
    → (pos 0) <ℤ (w r e) → w o e <ℤ (pos 0) → IsLexPositive n (read places (w r)) → IsAbove n places (basis o) (v o) (w o)
moved_above s basis w r e v o n places t p b d a h l q = cleared_above s (w o) (w r) e (basis o) (v o) n places (made s basis w r e v t p o b d) a (omega (arith, t.columns.in_range o b)) h l (t.rows o b).positive ((t.rows r p.row_in_range).cleared o b d) q
