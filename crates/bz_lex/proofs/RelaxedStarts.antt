-- The first pivots of a relaxed program: into the column s where the right sides are least, and out of it where its right side is 0.
use Rattle.std.specs.Prelude.{ℕ, suc, ◌+◌, ◌<◌, ◌≤◌, ◌≡◌, ◌≢◌, ℤ, pos, negsuc, ◌+ℤ◌, ◌-ℤ◌, ◌*ℤ◌, neg_ℤ, ◌≤ℤ◌, ◌<ℤ◌, true}
use Rattle.std.proofs.Common.{refl, ap, sym, subst, ◌∙◌, arith, inl, inr}
use Rattle.std.proofs.lemmas.Bool.{cases_eq, eq-eqb}
use Rattle.std.proofs.lemmas.Int.{ints}
use Rattle.bz_algebra.specs.Tableaus.{Program, Equations, side, row_entry, equations_of, slacks, IsOwnRow, IsRow, IsTableau, IsPivot, IsMoved, with_factor, factor, put}
use Rattle.bz_algebra.specs.Sums.{upto}
use Rattle.bz_algebra.proofs.Agreement.{row_same}
use Rattle.bz_algebra.proofs.Bounded.{zeros_or_not}
use Rattle.bz_algebra.proofs.Pivoting.{made, put_at, put_off}
use Rattle.bz_algebra.proofs.Programs.{own, own_is, own_row, entry_row, right_row, combination_columns, factor_at, factor_off}
use Rattle.bz_algebra.proofs.Ring.{*ℤ_assoc, mul_zero, zero_mul, mul_sub, mul_neg, neg_mul, mul_nonnegative, mul_positive, cancel_left, cancel_le_left, other_zero, positive-ne, neg_positive}
use Rattle.bz_algebra.proofs.SumLemmas.{upto_zeros}
use Rattle.bz_algebra.proofs.Uniqueness.{row_unique}

-- ---- the tableau of the slacks
-- its rows are the equations themselves
pub slack_rows : (s : Equations) (basis : ℕ → ℕ) (w : ℕ → ℕ → ℤ) → IsTableau s basis w → ((i : ℕ) → i < s.rows → basis i ≡ s.slack + i) → (i : ℕ) → i < s.rows → IsOwnRow s i (w i)
slack_rows s basis w t h i b = record {
  columns = λ j l. same j (omega arith) ∙ o.columns j l;
  own = same (s.slack + i) (omega arith) ∙ o.own;
  others = λ k l n. same (s.slack + k) (omega arith) ∙ o.others k l n;
  right = same (side s) (omega arith) ∙ o.right;
}
  where
    o : IsOwnRow s i (own s i)
    o = own_is s i b

    is_row : IsRow s basis i (own s i)
    is_row = row_same s (slacks s) basis i (own s i) (own s i) (record { in_range = λ k c. omega arith; different = λ k l c d e. omega arith }) b (own_row s i (own s i) b o) h (λ j l. refl)

    same : (j : ℕ) → j ≤ side s → w i j ≡ own s i j
    same = row_unique s basis w (own s i) i t b is_row

-- in the column s of a relaxed program each row but the objective has -1
pub relaxed_entries : (p : Program) (basis : ℕ → ℕ) (w : ℕ → ℕ → ℤ) → IsTableau (equations_of true p) basis w → ((i : ℕ) → i < suc p.rows → basis i ≡ (equations_of true p).slack + i) → (i : ℕ) → i < p.rows → w i p.columns ≡ negsuc 0
relaxed_entries p basis w t h i b = (slack_rows (equations_of true p) basis w t h i (omega arith)).columns p.columns (omega arith) ∙ entry_row true p i p.columns b ∙ minus
  where
    minus : row_entry true p i p.columns ≡ negsuc 0
    minus = rw (eq-eqb p.columns p.columns refl)

-- and its own right side
pub relaxed_rights : (p : Program) (basis : ℕ → ℕ) (w : ℕ → ℕ → ℤ) → IsTableau (equations_of true p) basis w → ((i : ℕ) → i < suc p.rows → basis i ≡ (equations_of true p).slack + i) → (i : ℕ) → i < p.rows → w i (side (equations_of true p)) ≡ p.rhs i
relaxed_rights p basis w t h i b = (slack_rows (equations_of true p) basis w t h i (omega arith)).right ∙ right_row true p i b

-- ---- into s
same_taken : (a b x y : ℤ) → a *ℤ x ≡ b *ℤ y → x ≡ negsuc 0 → y ≡ negsuc 0 → a ≡ b
same_taken a b x y e f g = cancel (a) (b) (sym (ap (λ (t : ℤ). a *ℤ t) f) ∙ e ∙ ap (λ (t : ℤ). b *ℤ t) g)
  where
    cancel : (a b : ℤ) → a *ℤ negsuc 0 ≡ b *ℤ negsuc 0 → a ≡ b
    cancel a b e = omega (arith, ints)

-- h x = a y - b z, b = a and z <= y: x isn't negative
lifted : (h x a y b z : ℤ) → (pos 0) <ℤ h → (pos 0) <ℤ a → h *ℤ x ≡ (a *ℤ y) -ℤ (b *ℤ z) → a ≡ b → z ≤ℤ y → (pos 0) ≤ℤ x
lifted h x a y b z k l e f m = cancel_le_left h (pos 0) x k (omega (arith, ints, mul_zero h, mul_nonnegative a (y -ℤ z) (omega (arith, ints)) (omega (arith, ints)), mul_sub a y z, ap (λ (t : ℤ). t *ℤ z) f))

-- h x = a y and h o = a (-1): x = - o y
turned : (h x o a y m : ℤ) → h ≢ pos 0 → h *ℤ x ≡ a *ℤ y → h *ℤ o ≡ a *ℤ m → m ≡ negsuc 0 → x ≡ o *ℤ neg_ℤ y
turned h x o a y m n e f g = cancel_left h x (o *ℤ neg_ℤ y) n (e ∙ twice a y ∙ ap (λ (t : ℤ). t *ℤ neg_ℤ y) (ap (λ (t : ℤ). a *ℤ t) (sym g) ∙ sym f) ∙ *ℤ_assoc h o (neg_ℤ y))
  where
    minus : (b : ℤ) → neg_ℤ b ≡ b *ℤ negsuc 0
    minus b = omega (arith, ints)

    twice : (a y : ℤ) → a *ℤ y ≡ (a *ℤ negsuc 0) *ℤ neg_ℤ y
    twice a y = sym (ap (λ (t : ℤ). t *ℤ neg_ℤ y) (sym (minus a)) ∙ neg_mul a (neg_ℤ y) ∙ ap neg_ℤ (mul_neg a y) ∙ back (a *ℤ y))
      where
        back : (b : ℤ) → neg_ℤ (neg_ℤ b) ≡ b
        back b = omega (arith, ints)

-- where the first `count` rows have -1 in the entering column, a pivot on the one of least right side, which is negative, leaves no negative right side
pub lowest_right : (s : Equations) (basis : ℕ → ℕ) (w : ℕ → ℕ → ℤ) (r e : ℕ) (v : ℕ → ℕ → ℤ) (count : ℕ) → IsTableau s basis w → IsPivot s basis w r e v → count ≤ s.rows → r < count → ((i : ℕ) → i < count → w i e ≡ negsuc 0)
    → (w r (side s)) <ℤ (pos 0) → ((i : ℕ) → i < count → (w r (side s)) ≤ℤ (w i (side s))) → (i : ℕ) → i < count → (pos 0) ≤ℤ (v i (side s))
lowest_right s basis w r e v count t p l b minus low least i c = elim (cases_eq i r) [ inl f ↦ subst (λ (k : ℕ). (pos 0) ≤ℤ (v k (side s))) (sym f) here | inr n ↦ there n ]
  where
    q : IsMoved s (w r) e (v r)
    q = p.moved

    here : (pos 0) ≤ℤ (v r (side s))
    here = subst (λ (z : ℤ). (pos 0) ≤ℤ z)
        (sym (turned q.times (v r (side s)) (v r e) q.kept (w r (side s)) (w r e) q.times_nonzero (q.multiple (side s) (omega arith)) (q.multiple e (omega (arith, p.column_in_range))) (minus r b)))
        (omega (arith, ints, mul_positive (v r e) (neg_ℤ (w r (side s))) q.positive (neg_positive (w r (side s)) low)))

    there : i ≢ r → (pos 0) ≤ℤ (v i (side s))
    there n =
        let m = made s basis w r e v t p i (omega arith) n in
        lifted m.times (v i (side s)) m.kept (w i (side s)) m.taken (w r (side s)) m.times_positive m.kept_positive (m.cleared.made (side s) (omega arith))
        (same_taken m.kept m.taken (w i e) (w r e) m.cleared.clears (minus i c) (minus r b)) (least i c)

-- so the right sides of a relaxed program aren't negative after the pivot on its column s in the row of least right side
pub relaxed_start : (p : Program) (basis : ℕ → ℕ) (w : ℕ → ℕ → ℤ) (r : ℕ) (v : ℕ → ℕ → ℤ) → IsTableau (equations_of true p) basis w → ((i : ℕ) → i < suc p.rows → basis i ≡ (equations_of true p).slack + i) → IsPivot (equations_of true p) basis w r p.columns v → r < p.rows
    → (p.rhs r) <ℤ (pos 0) → ((i : ℕ) → i < p.rows → (p.rhs r) ≤ℤ (p.rhs i)) → (i : ℕ) → i < p.rows → (pos 0) ≤ℤ (v i (side (equations_of true p)))
relaxed_start p basis w r v t h q b low least = lowest_right (equations_of true p) basis w r p.columns v p.rows t q (omega arith) b (relaxed_entries p basis w t h)
    (subst (λ (z : ℤ). z <ℤ (pos 0)) (sym (relaxed_rights p basis w t h r b)) low)
    (λ i c. omega (arith, ints, relaxed_rights p basis w t h r b, relaxed_rights p basis w t h i c, least i c))

-- ---- out of s
drop_zero : (h x a y b z : ℤ) → h *ℤ x ≡ (a *ℤ y) -ℤ (b *ℤ z) → z ≡ pos 0 → h *ℤ x ≡ a *ℤ y
drop_zero h x a y b z e f = omega (arith, ints, mul_zero b, ap (λ (t : ℤ). b *ℤ t) f)

still : (h x a y : ℤ) → (pos 0) <ℤ h → (pos 0) <ℤ a → h *ℤ x ≡ a *ℤ y → (pos 0) ≤ℤ y → (pos 0) ≤ℤ x
still h x a y k l e m = cancel_le_left h (pos 0) x k (omega (arith, ints, mul_zero h, mul_nonnegative a y (omega (arith, ints)) m))

-- a pivot on a row whose right side is 0 leaves no negative right side where there was none
pub zero_right : (s : Equations) (basis : ℕ → ℕ) (w : ℕ → ℕ → ℤ) (r e : ℕ) (v : ℕ → ℕ → ℤ) (count : ℕ) → IsTableau s basis w → IsPivot s basis w r e v → count ≤ s.rows → w r (side s) ≡ pos 0
    → ((i : ℕ) → i < count → (pos 0) ≤ℤ (w i (side s))) → (i : ℕ) → i < count → (pos 0) ≤ℤ (v i (side s))
zero_right s basis w r e v count t p l z h i c = elim (cases_eq i r) [ inl f ↦ subst (λ (k : ℕ). (pos 0) ≤ℤ (v k (side s))) (sym f) here | inr n ↦ there n ]
  where
    q : IsMoved s (w r) e (v r)
    q = p.moved

    here : (pos 0) ≤ℤ (v r (side s))
    here = subst (λ (x : ℤ). (pos 0) ≤ℤ x) (sym (other_zero q.times (v r (side s)) q.times_nonzero (q.multiple (side s) (omega arith) ∙ ap (λ (x : ℤ). q.kept *ℤ x) z ∙ mul_zero q.kept))) (omega (arith, ints))

    there : i ≢ r → (pos 0) ≤ℤ (v i (side s))
    there n =
        let m = made s basis w r e v t p i (omega arith) n in
        still m.times (v i (side s)) m.kept (w i (side s)) m.times_positive m.kept_positive (drop_zero m.times (v i (side s)) m.kept (w i (side s)) m.taken (w r (side s)) (m.cleared.made (side s) (omega arith)) z) (h i c)

-- the row of s has an entry in a slack: it is made of the rows, and each of them has -1 in s
pub other_entry : (p : Program) (basis : ℕ → ℕ) (w : ℕ → ℕ → ℤ) → IsTableau (equations_of true p) (with_factor true p basis) w → (k : ℕ) → k < p.rows → basis k ≡ p.columns → (i : ℕ) × (i < p.rows) × (w k ((equations_of true p).slack + i) ≢ pos 0)
other_entry p basis w t k b basic = elim (zeros_or_not p.rows (λ i. w k ((equations_of true p).slack + i))) [ inl z ↦ absurd (positive-ne (w k p.columns) positive (none z)) | inr f ↦ f ]
  where
    positive : (pos 0) <ℤ (w k p.columns)
    positive = subst (λ (c : ℕ). (pos 0) <ℤ (w k c)) (factor_off true p basis k b ∙ basic) (t.rows k (omega arith)).positive

    untaken : w k (factor true p) ≡ pos 0
    untaken = ap (w k) (sym (factor_at true p basis)) ∙ (t.rows k (omega arith)).cleared p.rows (omega arith) (λ e. omega arith)

    nothing : (x y o : ℤ) → x ≡ pos 0 → y ≡ pos 0 → x +ℤ (y *ℤ o) ≡ pos 0
    nothing x y o e f = rw (e, f, zero_mul o)

    none : ((i : ℕ) → i < p.rows → w k ((equations_of true p).slack + i) ≡ pos 0) → w k p.columns ≡ pos 0
    none z = combination_columns true p (w k) p.columns (t.rows k (omega arith)).combination (omega arith)
        ∙ nothing (upto p.rows (λ i. w k ((equations_of true p).slack + i) *ℤ row_entry true p i p.columns)) (w k (factor true p)) _ (upto_zeros p.rows _ (λ i l. ap (λ (x : ℤ). x *ℤ row_entry true p i p.columns) (z i l) ∙ zero_mul (row_entry true p i p.columns))) untaken

-- after the pivot out of s no place has it
pub put_away : (s : Equations) (basis : ℕ → ℕ) (k e c : ℕ) → ((i l : ℕ) → i < s.rows → l < s.rows → basis i ≡ basis l → i ≡ l) → k < s.rows → basis k ≡ c → e ≢ c → (i : ℕ) → i < s.rows → put basis k e i ≢ c
put_away s basis k e c d b basic n i l g = elim (cases_eq i k) [
  | inl f ↦ n (sym (ap (put basis k e) f ∙ put_at basis k e) ∙ g)
  | inr m ↦ m (d i k l b (sym (put_off basis k e i m) ∙ g ∙ sym basic))
]
