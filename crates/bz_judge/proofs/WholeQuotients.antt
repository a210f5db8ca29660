-- Whole quotients, and what they are at most and at least.
use Rattle.std.proofs.Common.{◌≡◌, ◌∙◌, ap, ◌<◌, arith, ℤ, pos, ◌+ℤ◌, ◌-ℤ◌, ◌*ℤ◌, ◌<ℤ◌, ◌≤ℤ◌}
use Rattle.std.proofs.lemmas.Int.{ints, by_lt_z}
use Rattle.std.specs.Int.RustNames.{unsigned_abs}
use Rattle.bz_algebra.proofs.Ring.{add_mul, sub_mul, one_mul, mul_le_right, cancel_le_right, le_antisym}

one_more : (q d : ℤ) → (q +ℤ pos 1) *ℤ d ≡ (q *ℤ d) +ℤ d
one_more q d = add_mul q (pos 1) d ∙ ap (λ (z : ℤ). (q *ℤ d) +ℤ z) (one_mul d)

one_less : (q d : ℤ) → (q -ℤ pos 1) *ℤ d ≡ (q *ℤ d) -ℤ d
one_less q d = sub_mul q (pos 1) d ∙ ap (λ (z : ℤ). (q *ℤ d) -ℤ z) (one_mul d)

-- a whole quotient leaves no rest
pub whole_rest : (k q r d : ℤ) → pos 0 <ℤ d → (q *ℤ d) +ℤ r ≡ k *ℤ d → unsigned_abs r < unsigned_abs d → r ≡ pos 0
whole_rest k q r d some e s = by_lt_z q k
    (λ (b : q <ℤ k).
    let l : ((q +ℤ pos 1) *ℤ d) ≤ℤ (k *ℤ d) = mul_le_right (q +ℤ pos 1) k d (omega (arith, ints)) (omega (arith, ints)) in
    let o : (q +ℤ pos 1) *ℤ d ≡ (q *ℤ d) +ℤ d = one_more q d in
    omega (arith, ints))
    (λ (b : k ≤ℤ q). by_lt_z k q
    (λ (t : k <ℤ q).
    let l : (k *ℤ d) ≤ℤ ((q -ℤ pos 1) *ℤ d) = mul_le_right k (q -ℤ pos 1) d (omega (arith, ints)) (omega (arith, ints)) in
    let o : (q -ℤ pos 1) *ℤ d ≡ (q *ℤ d) -ℤ d = one_less q d in
    omega (arith, ints))
    (λ (t : q ≤ℤ k).
    let same : k *ℤ d ≡ q *ℤ d = ap (λ (z : ℤ). z *ℤ d) (le_antisym k q b t) in
    omega (arith, ints)))

-- a bound of the quotient, and of the number
pub at_most_up : (x q u d : ℤ) → pos 0 <ℤ d → x ≡ q *ℤ d → q ≤ℤ u → x ≤ℤ (u *ℤ d)
at_most_up x q u d some e h = rw e (mul_le_right q u d (omega (arith, ints)) h)

pub at_most_down : (x q u d : ℤ) → pos 0 <ℤ d → x ≡ q *ℤ d → x ≤ℤ (u *ℤ d) → q ≤ℤ u
at_most_down x q u d some e h = cancel_le_right q u d some (rw (← e) h)

pub at_least_up : (x q l d : ℤ) → pos 0 <ℤ d → x ≡ q *ℤ d → l ≤ℤ q → (l *ℤ d) ≤ℤ x
at_least_up x q l d some e h = rw e (mul_le_right l q d (omega (arith, ints)) h)

pub at_least_down : (x q l d : ℤ) → pos 0 <ℤ d → x ≡ q *ℤ d → (l *ℤ d) ≤ℤ x → l ≤ℤ q
at_least_down x q l d some e h = cancel_le_right l q d some (rw (← e) h)
