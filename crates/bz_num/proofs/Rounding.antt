-- Quotients rounded down and up.
use Rattle.std.proofs.Common.{◌≡◌, ◌∙◌, ap, arith, ℤ, pos, negsuc, ◌+ℤ◌, ◌-ℤ◌, ◌*ℤ◌, ◌<ℤ◌, ◌≤ℤ◌, neg_ℤ}
use Rattle.std.proofs.lemmas.Int.{ints, by_lt_z}
use Rattle.std.specs.Int.{int_div_euclid, int_rem_euclid}
use Rattle.bz_algebra.specs.Numbers.{IsNarrow}
use Rattle.bz_algebra.proofs.Ring.{add_mul, sub_mul, one_mul, mul_one, mul_le_left, neg_mul}
use Rattle.bz_num.specs.declared.fraction.Frac.{Frac}
use Rattle.bz_num.specs.Rounding.{IsCeiling, IsFloor}

-- the quotient times the divisor, and the rest, is the whole
pub whole_euclid : (n d : ℤ) → pos 0 <ℤ d → (int_div_euclid n d *ℤ d) +ℤ int_rem_euclid n d ≡ n
whole_euclid (pos n) (pos d) some = omega (arith, ints)
whole_euclid (negsuc n) (pos d) some = omega (arith, ints)
whole_euclid (pos n) (negsuc d) some = absurd (omega (arith, ints))
whole_euclid (negsuc n) (negsuc d) some = absurd (omega (arith, ints))

one_more : (q d : ℤ) → (q +ℤ pos 1) *ℤ d ≡ (q *ℤ d) +ℤ d
one_more q d = add_mul q (pos 1) d ∙ ap (λ (z : ℤ). (q *ℤ d) +ℤ z) (one_mul d)

one_less : (q d : ℤ) → (q -ℤ pos 1) *ℤ d ≡ (q *ℤ d) -ℤ d
one_less q d = sub_mul q (pos 1) d ∙ ap (λ (z : ℤ). (q *ℤ d) -ℤ z) (one_mul d)

same_again : (q : ℤ) → (q +ℤ pos 1) -ℤ pos 1 ≡ q
same_again q = omega (arith, ints)

-- what the quotient rounded down and its rest are for the fraction
pub floor_is : (f : Frac) (q r : ℤ) → (q *ℤ f.den) +ℤ r ≡ f.num → pos 0 ≤ℤ r → r <ℤ f.den → IsFloor f q
floor_is f q r e low high = record {
  at_most = omega (arith, ints);
  greatest = rw (one_more q f.den) (omega (arith, ints));
}

pub ceiling_above : (f : Frac) (q r : ℤ) → (q *ℤ f.den) +ℤ r ≡ f.num → pos 0 <ℤ r → r <ℤ f.den → IsCeiling f (q +ℤ pos 1)
ceiling_above f q r e low high = record {
  at_least = rw (one_more q f.den) (omega (arith, ints));
  least = rw (same_again q) (omega (arith, ints));
}

pub ceiling_same : (f : Frac) (q r : ℤ) → (q *ℤ f.den) +ℤ r ≡ f.num → r ≡ pos 0 → IsCeiling f q
ceiling_same f q r e none =
    let some : pos 0 <ℤ f.den = f.positive in
    record {
      at_least = omega (arith, ints);
      least = rw (one_less q f.den) (omega (arith, ints));
    }

times_up : (q d : ℤ) → pos 0 ≤ℤ q → pos 0 <ℤ d → q ≤ℤ (q *ℤ d)
times_up q d h some =
    let l : (q *ℤ pos 1) ≤ℤ (q *ℤ d) = mul_le_left q (pos 1) d h (omega (arith, ints)) in
    let o : q *ℤ pos 1 ≡ q = mul_one q in
    omega (arith, ints)

times_down : (q d : ℤ) → q ≤ℤ pos 0 → pos 0 <ℤ d → (q *ℤ d) ≤ℤ q
times_down q d h some =
    let l : (neg_ℤ q) ≤ℤ (neg_ℤ q *ℤ d) = times_up (neg_ℤ q) d (omega (arith, ints)) some in
    let o : neg_ℤ q *ℤ d ≡ neg_ℤ (q *ℤ d) = neg_mul q d in
    omega (arith, ints)

-- a rounded fraction is no larger than its numerator
pub floor_narrow : (f : Frac) (n : ℤ) → IsFloor f n → IsNarrow n
floor_narrow f n h =
    let size : IsNarrow f.num = f.narrow_num in
    by_lt_z n (pos 0)
    (λ (b : n <ℤ pos 0). let l : ((n +ℤ pos 1) *ℤ f.den) ≤ℤ (n +ℤ pos 1) = times_down (n +ℤ pos 1) f.den (omega (arith, ints)) f.positive in omega (arith, ints, h.greatest))
    (λ (b : pos 0 ≤ℤ n). let l : n ≤ℤ (n *ℤ f.den) = times_up n f.den b f.positive in omega (arith, ints, h.at_most))

pub ceiling_narrow : (f : Frac) (n : ℤ) → IsCeiling f n → IsNarrow n
ceiling_narrow f n h =
    let size : IsNarrow f.num = f.narrow_num in
    by_lt_z (pos 0) n
    (λ (b : pos 0 <ℤ n). let l : (n -ℤ pos 1) ≤ℤ ((n -ℤ pos 1) *ℤ f.den) = times_up (n -ℤ pos 1) f.den (omega (arith, ints)) f.positive in omega (arith, ints, h.least))
    (λ (b : n ≤ℤ pos 0). let l : (n *ℤ f.den) ≤ℤ n = times_down n f.den b f.positive in omega (arith, ints, h.at_least))
