-- Quotients without rest, by divisors of either sign.
use Rattle.std.proofs.Common.{◌≡◌, ◌≢◌, refl, ap, sym, ◌∙◌, ℕ, zero, suc, ◌*◌, ◌/◌, ◌<◌, ◌≤◌, arith, ℤ, pos, negsuc, ◌*ℤ◌, ◌<ℤ◌, neg_ℤ, FitsSigned, to_z, of_z}
use Rattle.std.proofs.lemmas.Int.{ints, unsigned_abs-mul, fits_signed_from_abs, quot_is}
use Rattle.std.proofs.Math.Nat.{mul-div_cancel', le-mul_of_pos_right}
use Rattle.std.specs.Int.{w128, ◌∣◌}
use Rattle.std.specs.Int.RustNames.{unsigned_abs, int_div}
use Rattle.bz_algebra.specs.Numbers.{IsNarrow}
use Rattle.bz_algebra.proofs.Ring.{mul_neg, neg_mul, neg_neg}
use Rattle.bz_num.proofs.Divisors.{divided_z}

-- a divisor times the quotient
pub times_quotient : (d z : ℤ) → d ≢ pos 0 → unsigned_abs d ∣ unsigned_abs z → d *ℤ int_div z d ≡ z
times_quotient (pos d) z n h = divided_z (pos d) z (positive d n) h
  where
    positive : (d : ℕ) → pos d ≢ pos 0 → (pos 0) <ℤ (pos d)
    positive zero n = absurd (n refl)
    positive (suc d) n = omega (arith, ints)
times_quotient (negsuc d) (pos a) n h = neg_mul (pos (suc d)) (neg_ℤ (pos (a / suc d))) ∙ ap neg_ℤ (mul_neg (pos (suc d)) (pos (a / suc d))) ∙ neg_neg (pos (suc d * (a / suc d))) ∙ ap pos (mul-div_cancel' (suc d) h)
times_quotient (negsuc d) (negsuc a) n h = neg_mul (pos (suc d)) (pos (suc a / suc d)) ∙ ap (λ (m : ℕ). neg_ℤ (pos m)) (mul-div_cancel' (suc d) h)

pub nonzero_size : (d : ℤ) → d ≢ pos 0 → 0 < unsigned_abs d
nonzero_size (pos zero) n = absurd (n refl)
nonzero_size (pos (suc d)) n = omega arith
nonzero_size (negsuc d) n = omega arith

pub zero_from_size : (z : ℤ) → unsigned_abs z ≡ 0 → z ≡ pos 0
zero_from_size (pos n) h = ap pos h
zero_from_size (negsuc n) h = absurd (omega arith)

-- a factor is no larger than the product
pub factor_small : (d q z : ℤ) → d ≢ pos 0 → d *ℤ q ≡ z → unsigned_abs q ≤ unsigned_abs z
factor_small d q z n e =
    let some : 0 < unsigned_abs d = nonzero_size d n in
    let size : unsigned_abs z ≡ unsigned_abs d * unsigned_abs q = ap unsigned_abs (sym e) ∙ unsigned_abs-mul d q in
    let more : unsigned_abs q ≤ unsigned_abs q * unsigned_abs d = le-mul_of_pos_right (unsigned_abs q) some in
    omega arith

pub narrow_factor : (d q z : ℤ) → d ≢ pos 0 → d *ℤ q ≡ z → IsNarrow z → IsNarrow q
narrow_factor d q z n e h = let small = factor_small d q z n e in omega arith

pub quotient_fits : (d z : ℤ) → d ≢ pos 0 → unsigned_abs d ∣ unsigned_abs z → IsNarrow z → FitsSigned w128 (int_div z d)
quotient_fits d z n h narrow = fits_signed_from_abs w128 (int_div z d) (narrow_factor d (int_div z d) z n (times_quotient d z n h) narrow)

-- the code's quotient
pub quotient_value : (d z : ℤ) → d ≢ pos 0 → unsigned_abs d ∣ unsigned_abs z → IsNarrow z → FitsSigned w128 d → FitsSigned w128 z → z ≡ d *ℤ to_z w128 (of_z w128 (int_div (to_z w128 (of_z w128 z)) (to_z w128 (of_z w128 d))))
quotient_value d z n h narrow fd fz = sym (ap (λ (t : ℤ). d *ℤ t) (quot_is w128 z d fz fd (quotient_fits d z n h narrow)) ∙ times_quotient d z n h)
