-- Farkas' lemma over whole numbers, by induction on the rows: no basis, no fraction, no dimension.
--
-- A direction d for the rows but the last is one for all of them where the last row doesn't rise along it. Where it rises, the last row, taken often enough, clears d out of the other rows and of the cost: each is then 0 along d. What the cleared rows have is turned back: a direction into one along which the last row stands still, multipliers into multipliers with one more for the last row. No row but the last rises along d and the cost falls there, so that the last row is added everywhere and never taken away.
use Rattle.std.specs.Prelude.{ℕ, zero, suc, ◌<◌, ◌≡◌, ◌≢◌, ℤ, pos, ◌+ℤ◌, ◌-ℤ◌, ◌*ℤ◌, neg_ℤ, ◌≤ℤ◌, ◌<ℤ◌, ◌⊎◌}
use Rattle.std.proofs.Common.{refl, ap, ◌∙◌, arith, inl, inr}
use Rattle.std.proofs.lemmas.Int.{ints, by_lt_z}
use Rattle.std.proofs.Math.IntN.{*ℤ_comm}
use Rattle.bz_algebra.specs.Sums.{upto}
use Rattle.bz_algebra.proofs.Bounded.{below_suc, with_last, with_last_at, with_last_before, zeros_or_not}
use Rattle.bz_algebra.proofs.Ring.{*ℤ_assoc, sub_mul, add_mul, mul_sub, mul_left, mul_neg, neg_mul, neg_positive, mul_zero, zero_mul, mul_le_left, mul_lt_left, mul_nonnegative, mul_positive, by_sign}
use Rattle.bz_algebra.proofs.SumLemmas.{upto_same, upto_sub, upto_add, upto_scale, upto_scale_right, upto_rows, upto_le, upto_zeros, upto_zero, single, single_sum}
use Rattle.bz_farkas.specs.Falls.{IsFall, IsBalance, HasFall, HasBalance}

-- ---- a row along a direction
-- how much the row f rises along d
abbrev rise : ℕ → (ℕ → ℤ) → (ℕ → ℤ) → ℤ
rise n f d = upto n (λ j. f j *ℤ d j)

-- a f - b g
abbrev less : ℤ → (ℕ → ℤ) → ℤ → (ℕ → ℤ) → ℕ → ℤ
less a f b g j = (a *ℤ f j) -ℤ (b *ℤ g j)

rise_of_less : (n : ℕ) (a b : ℤ) (f g d : ℕ → ℤ) → rise n (less a f b g) d ≡ (a *ℤ rise n f d) -ℤ (b *ℤ rise n g d)
rise_of_less n a b f g d =
    upto_same n _ _ (λ j l. omega (arith, ints, sub_mul (a *ℤ f j) (b *ℤ g j) (d j), *ℤ_assoc a (f j) (d j), *ℤ_assoc b (g j) (d j)))
    ∙ upto_sub n (λ j. a *ℤ (f j *ℤ d j)) (λ j. b *ℤ (g j *ℤ d j))
    ∙ (λ k. upto_scale n a (λ j. f j *ℤ d j) k -ℤ upto_scale n b (λ j. g j *ℤ d j) k)

rise_swap : (n : ℕ) (f d : ℕ → ℤ) → rise n f d ≡ rise n d f
rise_swap n f d = upto_same n _ _ (λ j l. *ℤ_comm (f j) (d j))

rise_along_less : (n : ℕ) (a b : ℤ) (f d e : ℕ → ℤ) → rise n f (less a d b e) ≡ (a *ℤ rise n f d) -ℤ (b *ℤ rise n f e)
rise_along_less n a b f d e =
    rise_swap n f (less a d b e)
    ∙ rise_of_less n a b d e f
    ∙ (λ k. (a *ℤ rise_swap n d f k) -ℤ (b *ℤ rise_swap n e f k))

-- ---- no rows
square_positive : (a : ℤ) → a ≢ pos 0 → (pos 0) <ℤ (a *ℤ a)
square_positive a n = by_sign a
    (λ h. omega (arith, ints, mul_positive (neg_ℤ a) (neg_ℤ a) (neg_positive a h) (neg_positive a h), neg_mul a (neg_ℤ a), mul_neg a a))
    (λ e. absurd (n e))
    (λ h. mul_positive a a h h)

-- a cost with a coefficient that isn't 0 falls along that column, or against it
along_column : (n m k : ℕ) (term : ℕ → ℕ → ℤ) (cost : ℕ → ℤ) → m ≡ 0 → k < n → cost k ≢ pos 0 → HasFall n m term cost
along_column n m k term cost e b ne = (
  single k (neg_ℤ (cost k)),
  record {
    rows_hold = λ i l. absurd (omega arith);
    cost_falls = omega (arith, ints, rise_swap n cost (single k (neg_ℤ (cost k))), single_sum n k (neg_ℤ (cost k)) cost b, neg_mul (cost k) (cost k), square_positive (cost k) ne);
  },
)

no_rows : (n : ℕ) (term : ℕ → ℕ → ℤ) (cost : ℕ → ℤ) → HasFall n zero term cost ⊎ HasBalance n zero term cost
no_rows n term cost = elim (zeros_or_not n cost) [
  | inl z ↦ inr (λ i. pos 0, pos 1, record { multipliers = λ i l. absurd (omega arith); positive = omega (arith, ints); balanced = λ j l. omega (arith, ints, z j l) })
  | inr f ↦ inl (along_column n zero f.0 term cost refl f.1 f.2)
]

-- ---- the last row
-- f with d cleared out of it by the row last
abbrev cleared : ℕ → (ℕ → ℤ) → (ℕ → ℤ) → (ℕ → ℤ) → ℕ → ℤ
cleared n last d f = less (rise n last d) f (rise n f d) last

-- a direction e of the cleared rows, made one along which the last row stands still
abbrev levelled : ℕ → (ℕ → ℤ) → (ℕ → ℤ) → (ℕ → ℤ) → ℕ → ℤ
levelled n last d e = less (rise n last d) e (rise n last e) d

-- a row rises along it as its cleared one does along e
rise_levelled : (n : ℕ) (last d f e : ℕ → ℤ) → rise n f (levelled n last d e) ≡ rise n (cleared n last d f) e
rise_levelled n last d f e = omega (arith, ints, rise_along_less n (rise n last d) (rise n last e) f e d, rise_of_less n (rise n last d) (rise n f d) f last e)

level_fall : (n m : ℕ) (term : ℕ → ℕ → ℤ) (cost d e : ℕ → ℤ) → IsFall n m (λ i. cleared n (term m) d (term i)) (cleared n (term m) d cost) e → IsFall n (suc m) term cost (levelled n (term m) d e)
level_fall n m term cost d e h = record {
  rows_hold = below_suc m (λ i. (rise n (term i) (levelled n (term m) d e)) ≤ℤ (pos 0)) (λ i b. rw (rise_levelled n (term m) d (term i) e) (h.rows_hold i b)) stands;
  cost_falls = rw (rise_levelled n (term m) d cost e) h.cost_falls;
}
  where
    stands : (rise n (term m) (levelled n (term m) d e)) ≤ℤ (pos 0)
    stands = omega (arith, ints, rise_along_less n (rise n (term m) d) (rise n (term m) e) (term m) e d)

-- a direction of the rows before the last one, along which that doesn't rise either
kept_fall : (n m : ℕ) (term : ℕ → ℕ → ℤ) (cost d : ℕ → ℤ) → IsFall n m term cost d → (rise n (term m) d) ≤ℤ (pos 0) → IsFall n (suc m) term cost d
kept_fall n m term cost d h l = record { rows_hold = below_suc m (λ i. (rise n (term i) d) ≤ℤ (pos 0)) h.rows_hold l; cost_falls = h.cost_falls }

-- multipliers of the rows before the last one, and one for it
one_more : (n m : ℕ) (term : ℕ → ℕ → ℤ) (cost y : ℕ → ℤ) (last p : ℤ) →
    ((i : ℕ) → i < m → (pos 0) ≤ℤ (y i)) → (pos 0) ≤ℤ last → (pos 0) <ℤ p →
    ((j : ℕ) → j < n → (upto m (λ i. y i *ℤ term i j) +ℤ (last *ℤ term m j)) +ℤ (p *ℤ cost j) ≡ pos 0) →
    HasBalance n (suc m) term cost
one_more n m term cost y last p h l q e = (
  with_last m y last,
  p,
  record {
    multipliers = below_suc m (λ i. (pos 0) ≤ℤ (with_last m y last i)) (λ i b. rw (with_last_before m y last i b) (h i b)) (rw (with_last_at m y last) l);
    positive = q;
    balanced = λ j b. (λ k. (upto_same m (λ i. with_last m y last i *ℤ term i j) (λ i. y i *ℤ term i j) (λ i c. ap (λ (t : ℤ). t *ℤ term i j) (with_last_before m y last i c)) k +ℤ (with_last_at m y last k *ℤ term m j)) +ℤ (p *ℤ cost j)) ∙ e j b;
  },
)

kept_balance : (n m : ℕ) (term : ℕ → ℕ → ℤ) (cost y : ℕ → ℤ) (p : ℤ) → IsBalance n m term cost y p → HasBalance n (suc m) term cost
kept_balance n m term cost y p h = one_more n m term cost y (pos 0) p h.multipliers (omega (arith, ints)) h.positive (λ j b. omega (arith, ints, h.balanced j b, zero_mul (term m j)))

-- y (r t - a g) = (r y) t - (y a) g
apart : (y r t a g : ℤ) → y *ℤ ((r *ℤ t) -ℤ (a *ℤ g)) ≡ ((r *ℤ y) *ℤ t) -ℤ ((y *ℤ a) *ℤ g)
apart y r t a g = omega (arith, ints, mul_sub y (r *ℤ t) (a *ℤ g), mul_left y r t, *ℤ_assoc r y t, *ℤ_assoc y a g)

apart_sum : (m : ℕ) (y t a : ℕ → ℤ) (r g : ℤ) → upto m (λ i. y i *ℤ ((r *ℤ t i) -ℤ (a i *ℤ g))) ≡ upto m (λ i. (r *ℤ y i) *ℤ t i) -ℤ (upto m (λ i. y i *ℤ a i) *ℤ g)
apart_sum m y t a r g =
    upto_same m _ _ (λ i l. apart (y i) r (t i) (a i) g)
    ∙ upto_sub m (λ i. (r *ℤ y i) *ℤ t i) (λ i. (y i *ℤ a i) *ℤ g)
    ∙ (λ k. upto m (λ i. (r *ℤ y i) *ℤ t i) -ℤ upto_scale_right m (λ i. y i *ℤ a i) g k)

-- multipliers of rows that don't rise
not_above : (m : ℕ) (y a : ℕ → ℤ) → ((i : ℕ) → i < m → (pos 0) ≤ℤ (y i)) → ((i : ℕ) → i < m → (a i) ≤ℤ (pos 0)) → (upto m (λ i. y i *ℤ a i)) ≤ℤ (pos 0)
not_above m y a h l = rw (← upto_zero m) (upto_le m (λ i. y i *ℤ a i) (λ i. pos 0) (λ i b. rw (← mul_zero (y i)) (mul_le_left (y i) (a i) (pos 0) (h i b) (l i b))))

below : (p c : ℤ) → (pos 0) <ℤ p → c <ℤ (pos 0) → (p *ℤ c) <ℤ (pos 0)
below p c h l = omega (arith, ints, mul_lt_left p c (pos 0) h l, mul_zero p)

-- multipliers of the cleared rows, turned back: the last row gets what was taken of it
level_balance : (n m : ℕ) (term : ℕ → ℕ → ℤ) (cost d y : ℕ → ℤ) (p : ℤ) → IsFall n m term cost d → (pos 0) <ℤ (rise n (term m) d) →
    IsBalance n m (λ i. cleared n (term m) d (term i)) (cleared n (term m) d cost) y p → HasBalance n (suc m) term cost
level_balance n m term cost d y p f h b = one_more n m term cost (λ i. r *ℤ y i) last (r *ℤ p)
    (λ i l. mul_nonnegative r (y i) (omega (arith, ints)) (b.multipliers i l))
    (omega (arith, ints, not_above m y along b.multipliers f.rows_hold, below p (rise n cost d) b.positive f.cost_falls))
    (mul_positive r p h b.positive)
    (λ j l. omega (arith, ints, b.balanced j l, apart_sum m y (λ i. term i j) along r (term m j), apart p r (cost j) (rise n cost d) (term m j), neg_mul taken (term m j), add_mul (upto m (λ i. y i *ℤ along i)) (p *ℤ rise n cost d) (term m j)))
  where
    r : ℤ
    r = rise n (term m) d

    along : ℕ → ℤ
    along i = rise n (term i) d

    taken : ℤ
    taken = upto m (λ i. y i *ℤ along i) +ℤ (p *ℤ rise n cost d)

    last : ℤ
    last = neg_ℤ taken

-- ---- the two ends
with_last_row : (n m : ℕ) (term : ℕ → ℕ → ℤ) (cost d : ℕ → ℤ) → IsFall n m term cost d →
    HasFall n m (λ i. cleared n (term m) d (term i)) (cleared n (term m) d cost) ⊎ HasBalance n m (λ i. cleared n (term m) d (term i)) (cleared n (term m) d cost) →
    HasFall n (suc m) term cost ⊎ HasBalance n (suc m) term cost
with_last_row n m term cost d h r = by_lt_z (pos 0) (rise n (term m) d)
    (λ rises. elim r [
      | inl e ↦ inl (levelled n (term m) d e.0, level_fall n m term cost d e.0 e.1)
      | inr b ↦ inr (level_balance n m term cost d b.0 b.1 h rises b.2)
    ])
    (λ l. inl (d, kept_fall n m term cost d h l))

pub fall_or_balance : (n m : ℕ) (term : ℕ → ℕ → ℤ) (cost : ℕ → ℤ) → HasFall n m term cost ⊎ HasBalance n m term cost
fall_or_balance n zero term cost = no_rows n term cost
fall_or_balance n (suc m) term cost = elim (fall_or_balance n m term cost) [
  | inr b ↦ inr (kept_balance n m term cost b.0 b.1 b.2)
  | inl f ↦ with_last_row n m term cost f.0 f.1 (fall_or_balance n m (λ i. cleared n (term m) f.0 (term i)) (cleared n (term m) f.0 cost))
]

-- a combination of the rows and of the cost, along d
rise_of_sum : (n m : ℕ) (term : ℕ → ℕ → ℤ) (cost d y : ℕ → ℤ) (p : ℤ) → rise n (λ j. upto m (λ i. y i *ℤ term i j) +ℤ (p *ℤ cost j)) d ≡ upto m (λ i. y i *ℤ rise n (term i) d) +ℤ (p *ℤ rise n cost d)
rise_of_sum n m term cost d y p =
    upto_same n _ _ (λ j l. add_mul (upto m (λ i. y i *ℤ term i j)) (p *ℤ cost j) (d j))
    ∙ upto_add n (λ j. upto m (λ i. y i *ℤ term i j) *ℤ d j) (λ j. (p *ℤ cost j) *ℤ d j)
    ∙ (λ k. upto_rows n m y term d k +ℤ upto_same n (λ j. (p *ℤ cost j) *ℤ d j) (λ j. p *ℤ (cost j *ℤ d j)) (λ j l. *ℤ_assoc p (cost j) (d j)) k)
    ∙ (λ k. upto m (λ i. y i *ℤ rise n (term i) d) +ℤ upto_scale n p (λ j. cost j *ℤ d j) k)

-- a balance is 0 along each direction, a fall is below
pub not_both : (n m : ℕ) (term : ℕ → ℕ → ℤ) (cost : ℕ → ℤ) → HasFall n m term cost → HasBalance n m term cost → ⊥
not_both n m term cost f b = omega (arith, ints, along, rise_of_sum n m term cost f.0 b.0 b.1, not_above m b.0 (λ i. rise n (term i) f.0) b.2.multipliers f.1.rows_hold, below b.1 (rise n cost f.0) b.2.positive f.1.cost_falls)
  where
    along : rise n (λ j. upto m (λ i. b.0 i *ℤ term i j) +ℤ (b.1 *ℤ cost j)) f.0 ≡ pos 0
    along = upto_zeros n _ (λ j l. ap (λ (t : ℤ). t *ℤ f.0 j) (b.2.balanced j l) ∙ zero_mul (f.0 j))
