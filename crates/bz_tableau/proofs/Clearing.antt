-- A row cleared in a column by another: multipliers, and steps number by number.
use Rattle.std.proofs.Common.{◌≡◌, ◌≢◌, refl, ap, sym, subst, ◌∙◌, inl, inr, ℕ, zero, suc, ◌*◌, ◌/◌, ◌<◌, ◌^◌, arith, ℤ, pos, negsuc, ◌*ℤ◌, ◌-ℤ◌, ◌<ℤ◌, ◌≤ℤ◌, List, length, Option, Some, None, SomeIff}
use Rattle.std.proofs.Math.IntN.{*ℤ_comm, neg_ℤ}
use Rattle.std.proofs.lemmas.Int.{ints, unsigned_abs-mul}
use Rattle.std.proofs.lemmas.Nat.Gcd.{same_from_IsGcd}
use Rattle.std.proofs.Math.Nat.{eq-zero_of_zero-dvd, mul-div_cancel_left}
use Rattle.std.specs.Int.{IsGcd, ◌∣◌}
use Rattle.std.specs.Int.RustNames.{unsigned_abs}
use Rattle.bz_algebra.specs.Numbers.{IsNarrow}
use Rattle.bz_algebra.proofs.Bounded.{by_lt}
use Rattle.bz_algebra.proofs.Ring.{mul_left, mul_zero, zero_mul, one_mul, neg_mul, cancel_left, mul_positive, positive-ne, of_nonnegative}
use Rattle.bz_num.proofs.Quotients.{nonzero_size, zero_from_size}
use Rattle.bz_num.proofs.Reduces.{size-gcd_zero}
use Rattle.bz_tableau.specs.Dense.{entry, AreNarrow, AreMultipliers, AreTurnedMultipliers, DividesRow, IsNegated, IsWideStep, IsNarrowStep, IsWideRow, IsCombined, HasWideStep, IsReduced, IsNextLine, IsMovedLine}

-- ---- single steps
pub wide_step : (k a t b : ℤ) → (IsNarrowStep k a t b → ⊥) → IsWideStep k a t b
wide_step k a t b n =
    by_lt (unsigned_abs (k *ℤ a)) (2 ^ 127)
    (λ l. by_lt (unsigned_abs (t *ℤ b)) (2 ^ 127)
    (λ r. by_lt (unsigned_abs ((k *ℤ a) -ℤ (t *ℤ b))) (2 ^ 127)
    (λ d. absurd (n (record { left = l; right = r; difference = d })))
    (λ d. inr (inr d)))
    (λ r. inr (inl r)))
    (λ l. inl l)

pub narrow_step-not_wide : (k a t b : ℤ) → IsNarrowStep k a t b → IsWideStep k a t b → ⊥
narrow_step-not_wide k a t b h w = elim w [
  | inl l ↦ omega (arith, h.left)
  | inr v ↦ elim v [ inl r ↦ omega (arith, h.right) | inr d ↦ omega (arith, h.difference) ]
]

-- two narrow products and their difference
pub step_is : (k a t b : ℤ) (o : Option ℤ) → IsNarrow (k *ℤ a) → IsNarrow (t *ℤ b) → SomeIff o (IsNarrow ((k *ℤ a) -ℤ (t *ℤ b))) ((k *ℤ a) -ℤ (t *ℤ b)) → SomeIff o (IsNarrowStep k a t b) ((k *ℤ a) -ℤ (t *ℤ b))
step_is k a t b None l r h = λ s. h s.difference
step_is k a t b (Some x) l r h = (record { left = l; right = r; difference = h.0 }, h.1)

-- ---- multipliers
divisor_nonzero : (p r k t : ℤ) → p ≢ pos 0 → (m : AreMultipliers p r k t) → pos m.divisor ≢ pos 0
divisor_nonzero p r k t n m e = n (m.divides ∙ ap (λ (z : ℤ). z *ℤ k) e ∙ zero_mul k)

pub kept_nonzero : (p r k t : ℤ) → p ≢ pos 0 → AreMultipliers p r k t → k ≢ pos 0
kept_nonzero p r k t n m e = n (m.divides ∙ ap (λ (z : ℤ). pos m.divisor *ℤ z) e ∙ mul_zero (pos m.divisor))

-- the multipliers of two numbers are one pair
pub same_kept : (p r k t l u : ℤ) → p ≢ pos 0 → AreMultipliers p r k t → AreMultipliers p r l u → k ≡ l
same_kept p r k t l u n m o =
    let e : m.divisor ≡ o.divisor = same_from_IsGcd (unsigned_abs p) (unsigned_abs r) m.divisor o.divisor m.is_gcd o.is_gcd in
    cancel_left (pos m.divisor) k l (divisor_nonzero p r k t n m) (sym m.divides ∙ o.divides ∙ ap (λ (g : ℕ). pos g *ℤ l) (sym e))

pub same_taken : (p r k t l u : ℤ) → p ≢ pos 0 → AreMultipliers p r k t → AreMultipliers p r l u → t ≡ u
same_taken p r k t l u n m o =
    let e : m.divisor ≡ o.divisor = same_from_IsGcd (unsigned_abs p) (unsigned_abs r) m.divisor o.divisor m.is_gcd o.is_gcd in
    cancel_left (pos m.divisor) t u (divisor_nonzero p r k t n m) (sym m.divides_other ∙ o.divides_other ∙ ap (λ (g : ℕ). pos g *ℤ u) (sym e))

-- what two quotients by the greatest common divisor are
pub multipliers_are : (p r d k t : ℤ) → (pos 0) ≤ℤ d → IsGcd (unsigned_abs p) (unsigned_abs r) (unsigned_abs d) → p ≡ d *ℤ k → r ≡ d *ℤ t → AreMultipliers p r k t
multipliers_are p r d k t h g e f = record {
  divisor = unsigned_abs d;
  is_gcd = g;
  divides = e ∙ ap (λ (z : ℤ). z *ℤ k) (of_nonnegative d h);
  divides_other = f ∙ ap (λ (z : ℤ). z *ℤ t) (of_nonnegative d h);
}

pub gcd_nonzero : (p r d : ℤ) → p ≢ pos 0 → IsGcd (unsigned_abs p) (unsigned_abs r) (unsigned_abs d) → d ≢ pos 0
gcd_nonzero p r d n g e = n (zero_from_size p (eq-zero_of_zero-dvd (subst (λ (z : ℤ). unsigned_abs z ∣ unsigned_abs p) e g.0)))

-- crosswise they make the entries equal
pub crosswise : (p r k t : ℤ) → AreMultipliers p r k t → k *ℤ r ≡ t *ℤ p
crosswise p r k t m =
    ap (λ (z : ℤ). k *ℤ z) m.divides_other ∙ mul_left k (pos m.divisor) t ∙ ap (λ (z : ℤ). pos m.divisor *ℤ z) (*ℤ_comm k t) ∙ sym (mul_left t (pos m.divisor) k) ∙ ap (λ (z : ℤ). t *ℤ z) (sym m.divides)

-- ---- the same with the sign by which the row is taken positively
size_turned : (z : ℤ) → unsigned_abs (neg_ℤ z) ≡ unsigned_abs z
size_turned (pos zero) = refl
size_turned (pos (suc n)) = refl
size_turned (negsuc n) = refl

differences_turned : (x y : ℤ) → neg_ℤ x -ℤ neg_ℤ y ≡ neg_ℤ (x -ℤ y)
differences_turned x y = omega (arith, ints)

-- with both signs turned a wide step is wide
wide_turned : (k a t b : ℤ) → IsWideStep k a t b → IsWideStep (neg_ℤ k) a (neg_ℤ t) b
wide_turned k a t b w = elim w [
  | inl l ↦ inl (rw (neg_mul k a, size_turned (k *ℤ a)) l)
  | inr v ↦ elim v [
    | inl r ↦ inr (inl (rw (neg_mul t b, size_turned (t *ℤ b)) r))
    | inr d ↦ inr (inr (rw (neg_mul k a, neg_mul t b, differences_turned (k *ℤ a) (t *ℤ b), size_turned ((k *ℤ a) -ℤ (t *ℤ b))) d))
  ]
]

pub turned_ne : (p r k t : ℤ) → AreTurnedMultipliers p r k t → k ≢ pos 0
turned_ne p r k t m = positive-ne k m.positive

-- a row that isn't wide by the turned multipliers isn't by the plain ones
pub turned_wide : (p r k t a b : ℤ) → p ≢ pos 0 → (m : AreTurnedMultipliers p r k t) → IsWideStep m.plain_kept a m.plain_taken b → IsWideStep k a t b
turned_wide p r k t a b n m w = elim m.signs [
  | inl same ↦ rw (same.0, same.1) w
  | inr other ↦ rw (other.0, other.1) (wide_turned m.plain_kept a m.plain_taken b w)
]

-- a wide step by the turned ones is one by the plain ones
pub plain_wide : (p r k t a b : ℤ) → (m : AreTurnedMultipliers p r k t) → IsWideStep k a t b → IsWideStep m.plain_kept a m.plain_taken b
plain_wide p r k t a b m w = elim m.signs [
  | inl same ↦ rw (← same.0, ← same.1) w
  | inr other ↦ rw (back (k) (m.plain_kept) other.0, back t m.plain_taken other.1) (wide_turned k a t b w)
]
  where
    back : (k l : ℤ) → k ≡ neg_ℤ l → l ≡ neg_ℤ k
    back k l e = omega (arith, ints)

crosswise_turned : (k r t p : ℤ) → k *ℤ r ≡ t *ℤ p → neg_ℤ k *ℤ r ≡ neg_ℤ t *ℤ p
crosswise_turned k r t p e = neg_mul k r ∙ ap neg_ℤ e ∙ sym (neg_mul t p)

pub turned_crosswise : (p r k t : ℤ) → AreTurnedMultipliers p r k t → k *ℤ r ≡ t *ℤ p
turned_crosswise p r k t m = elim m.signs [
  | inl same ↦ rw (same.0, same.1) (crosswise p r m.plain_kept m.plain_taken m.multipliers)
  | inr other ↦ rw (other.0, other.1) (crosswise_turned m.plain_kept r m.plain_taken p (crosswise p r m.plain_kept m.plain_taken m.multipliers))
]

-- ---- whole rows
pub combined_narrow : (kept : ℤ) (row : List ℤ) (taken : ℤ) (pivot new : List ℤ) → IsCombined kept row taken pivot new → AreNarrow new
combined_narrow kept row taken pivot new c j l =
    let inside : j < length row = omega (arith, c.width) in
    subst (λ (z : ℤ). IsNarrow z) (sym (c.numbers j inside)) (c.narrow j inside).difference

own_step : (k a t b : ℤ) → (pos 0) <ℤ k → (pos 0) <ℤ a → b ≡ pos 0 → (pos 0) <ℤ ((k *ℤ a) -ℤ (t *ℤ b))
own_step k a t b n h e =
    let none : t *ℤ b ≡ pos 0 = ap (λ (z : ℤ). t *ℤ z) e ∙ mul_zero t in
    let some : (pos 0) <ℤ (k *ℤ a) = mul_positive k a n h in
    omega (arith, ints)

-- what is made is positive in the row's own column
pub combined_positive : (p r kept taken : ℤ) (row pivot new : List ℤ) (own : ℕ) → AreTurnedMultipliers p r kept taken → IsCombined kept row taken pivot new → own < length row → (pos 0) <ℤ (entry row own) → entry pivot own ≡ pos 0 → (pos 0) <ℤ (entry new own)
combined_positive p r kept taken row pivot new own m c l h z = subst (λ (x : ℤ). (pos 0) <ℤ x) (sym (c.numbers own l)) (own_step kept (entry row own) taken (entry pivot own) m.positive h z)

pub combined-not_wide : (kept taken : ℤ) (row pivot new : List ℤ) (e : ℕ) → entry pivot e ≢ pos 0 → AreTurnedMultipliers (entry pivot e) (entry row e) kept taken → IsCombined kept row taken pivot new → IsWideRow pivot row e → ⊥
combined-not_wide kept taken row pivot new e n m c w =
    narrow_step-not_wide kept (entry row w.column) taken (entry pivot w.column) (c.narrow w.column w.inside)
    (turned_wide (entry pivot e) (entry row e) kept taken (entry row w.column) (entry pivot w.column) n m
    (subst (λ (k : ℤ). IsWideStep k (entry row w.column) m.plain_taken (entry pivot w.column)) (sym (same_kept (entry pivot e) (entry row e) m.plain_kept m.plain_taken w.kept w.taken n m.multipliers w.multipliers))
    (subst (λ (t : ℤ). IsWideStep w.kept (entry row w.column) t (entry pivot w.column)) (sym (same_taken (entry pivot e) (entry row e) m.plain_kept m.plain_taken w.kept w.taken n m.multipliers w.multipliers)) w.wide)))

pub wide_row : (kept taken : ℤ) (row pivot : List ℤ) (e : ℕ) → AreTurnedMultipliers (entry pivot e) (entry row e) kept taken → HasWideStep kept row taken pivot → IsWideRow pivot row e
wide_row kept taken row pivot e m w = record { kept = m.plain_kept; taken = m.plain_taken; multipliers = m.multipliers; column = w.column; inside = w.inside; wide = plain_wide (entry pivot e) (entry row e) kept taken (entry row w.column) (entry pivot w.column) m w.wide }

-- the cleared row, reduced
pub next_is : (kept taken : ℤ) (row pivot mid new : List ℤ) (e own : ℕ) → entry pivot e ≢ pos 0 → e < length row → AreTurnedMultipliers (entry pivot e) (entry row e) kept taken → IsCombined kept row taken pivot mid → IsReduced own mid new → IsNextLine row pivot e own new
next_is kept taken row pivot mid new e own n inside m c r = record {
  width = r.divided.width ∙ c.width;
  made = λ s w. record {
    times = r.times;
    kept = kept;
    taken = taken;
    times_nonzero = r.times_nonzero;
    kept_nonzero = turned_ne (entry pivot e) (entry row e) kept taken m;
    cleared = record {
      clears = turned_crosswise (entry pivot e) (entry row e) kept taken m;
      made = λ j l. sym (r.divided.numbers j (omega (arith, c.width))) ∙ c.numbers j (omega arith);
    };
    primitive = λ d h. r.primitive d (λ j l. h j (omega (arith, c.width, r.divided.width)));
    positive = r.positive;
  };
  narrow = combined-not_wide kept taken row pivot mid e n m c;
}

-- ---- the pivot row
-- a primitive row that is positive in the new column stays
pub moved_kept : (pivot : List ℤ) (e : ℕ) → (pos 0) <ℤ (entry pivot e) → ((d : ℕ) → DividesRow d pivot → d ≡ 1) → IsMovedLine pivot e pivot
moved_kept pivot e h p = record {
  width = refl;
  moved = λ s w. record {
    times = pos 1;
    kept = pos 1;
    times_nonzero = λ g. omega (arith, ints);
    kept_nonzero = λ g. omega (arith, ints);
    multiple = λ j l. refl;
    primitive = λ d a. p d (λ j l. a j (omega arith));
    positive = h;
  };
}

-- one that is negative there turns its sign
pub moved_negated : (pivot new : List ℤ) (e : ℕ) → e < length pivot → (entry pivot e) <ℤ (pos 0) → ((d : ℕ) → DividesRow d pivot → d ≡ 1) → IsNegated pivot new → IsMovedLine pivot e new
moved_negated pivot new e inside h p n = record {
  width = n.width;
  moved = λ s w. record {
    times = pos 1;
    kept = negsuc 0;
    times_nonzero = λ g. omega (arith, ints);
    kept_nonzero = λ g. omega (arith, ints);
    multiple = λ j l. one_mul (entry new j) ∙ n.numbers j (omega arith) ∙ minus (entry pivot j);
    primitive = λ d a. p d (λ j l. subst (λ (m : ℕ). d ∣ m) (ap unsigned_abs (n.numbers j l) ∙ size_turned (entry pivot j)) (a j (omega (arith, w))));
    positive = subst (λ (x : ℤ). (pos 0) <ℤ x) (sym (n.numbers e inside)) (turned_sign (entry pivot e) h);
  };
}
  where
    minus : (z : ℤ) → neg_ℤ z ≡ negsuc 0 *ℤ z
    minus z = sym (neg_mul (pos 1) z ∙ ap neg_ℤ (one_mul z))

    turned_sign : (z : ℤ) → z <ℤ (pos 0) → (pos 0) <ℤ (neg_ℤ z)
    turned_sign z l = omega (arith, ints)

-- a row that is 0 in the pivot's column is its own next row
pub next_kept : (row pivot : List ℤ) (e own : ℕ) → entry pivot e ≢ pos 0 → entry row e ≡ pos 0 → AreNarrow row → (pos 0) <ℤ (entry row own) → ((d : ℕ) → DividesRow d row → d ≡ 1) → IsNextLine row pivot e own row
next_kept row pivot e own n z narrow h p = record {
  width = refl;
  made = λ s w. record {
    times = pos 1;
    kept = pos 1;
    taken = pos 0;
    times_nonzero = λ g. omega (arith, ints);
    kept_nonzero = λ g. omega (arith, ints);
    cleared = record {
      clears = one_mul (entry row e) ∙ z ∙ sym (zero_mul (entry pivot e));
      made = λ j l. nothing_taken (pos 1 *ℤ entry row j) (entry pivot j);
    };
    primitive = λ d a. p d (λ j l. a j (omega arith));
    positive = h;
  };
  narrow = λ w. not_wide w;
}
  where
    nothing_taken : (x b : ℤ) → x ≡ x -ℤ (pos 0 *ℤ b)
    nothing_taken x b = let none : pos 0 *ℤ b ≡ pos 0 = zero_mul b in omega (arith, ints)

    none_taken : (w : IsWideRow pivot row e) → w.taken ≡ pos 0
    none_taken w = cancel_left (pos w.multipliers.divisor) w.taken (pos 0) (divisor_nonzero (entry pivot e) (entry row e) w.kept w.taken n w.multipliers) (sym w.multipliers.divides_other ∙ z ∙ sym (mul_zero (pos w.multipliers.divisor)))

    -- the multiplier of a row that has a 0 is 1 or -1
    kept_one : (w : IsWideRow pivot row e) → unsigned_abs w.kept ≡ 1
    kept_one w = unit (unsigned_abs (entry pivot e)) (unsigned_abs w.kept) (nonzero_size (entry pivot e) n)
        (ap unsigned_abs w.multipliers.divides ∙ unsigned_abs-mul (pos w.multipliers.divisor) w.kept ∙ ap (λ (g : ℕ). g * unsigned_abs w.kept) whole)
      where
        unit : (p k : ℕ) → 0 < p → p ≡ p * k → k ≡ 1
        unit p k l f = let e : p ≡ p * 1 = omega arith in sym (mul-div_cancel_left k l) ∙ ap (λ (m : ℕ). m / p) (sym f ∙ e) ∙ mul-div_cancel_left 1 l

        whole : w.multipliers.divisor ≡ unsigned_abs (entry pivot e)
        whole = size-gcd_zero (entry pivot e) (pos w.multipliers.divisor) (subst (λ (z : ℤ). IsGcd (unsigned_abs (entry pivot e)) (unsigned_abs z) w.multipliers.divisor) z w.multipliers.is_gcd)

    not_wide : IsWideRow pivot row e → ⊥
    not_wide w = narrow_step-not_wide w.kept (entry row w.column) w.taken (entry pivot w.column) (record {
      left = left;
      right = subst (λ (z : ℤ). IsNarrow z) (sym right) (omega arith);
      difference = subst (λ (z : ℤ). IsNarrow z) (sym difference) left;
    }) w.wide
      where
        right : w.taken *ℤ entry pivot w.column ≡ pos 0
        right = ap (λ (t : ℤ). t *ℤ entry pivot w.column) (none_taken w) ∙ zero_mul (entry pivot w.column)

        difference : (w.kept *ℤ entry row w.column) -ℤ (w.taken *ℤ entry pivot w.column) ≡ w.kept *ℤ entry row w.column
        difference = omega (arith, ints, right)

        left : IsNarrow (w.kept *ℤ entry row w.column)
        left = subst (λ (m : ℕ). m < 2 ^ 127) (sym (unsigned_abs-mul w.kept (entry row w.column) ∙ one_times (unsigned_abs w.kept) (unsigned_abs (entry row w.column)) (kept_one w))) (narrow w.column w.inside)
          where
            one_times : (k n : ℕ) → k ≡ 1 → k * n ≡ n
            one_times k n e = rw e (omega arith)
