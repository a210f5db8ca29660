-- Common divisors of numbers with a sign.
use Rattle.std.proofs.Common.{◌≡◌, refl, ◌∙◌, ap, ℕ, zero, suc, ◌*◌, ◌/◌, ◌<◌, ◌≤◌, ◌^◌, arith, ℤ, pos, negsuc, ◌*ℤ◌, ◌<ℤ◌, ◌≤ℤ◌, FitsSigned, mul-zero}
use Rattle.std.proofs.lemmas.Int.{ints}
use Rattle.std.proofs.Math.Nat.{mul-div_cancel', div-le_self, eq-zero_of_zero-dvd}
use Rattle.std.proofs.Math.IntN.{neg_ℤ}
use Rattle.std.specs.Int.{IsGcd, ◌∣◌, w128}
use Rattle.std.specs.Int.Signed.{mag}
use Rattle.std.specs.Int.RustNames.{unsigned_abs, int_div}

pub IsGcd-along : (a b c d g : ℕ) → a ≡ c → b ≡ d → IsGcd a b g → IsGcd c d g
IsGcd-along a b c d g p q h = rw (← p, ← q) h

size-neg : (n : ℕ) → unsigned_abs (neg_ℤ (pos n)) ≡ n
size-neg zero = refl
size-neg (suc n) = refl

times-neg : (g q : ℕ) → pos g *ℤ neg_ℤ (pos q) ≡ neg_ℤ (pos (g * q))
times-neg g zero = rw mul-zero refl
times-neg g (suc q) = refl

pos-divided : (g : ℕ) (z : ℤ) → g ∣ unsigned_abs z → pos g *ℤ int_div z (pos g) ≡ z
pos-divided g (pos n) h = ap pos (mul-div_cancel' g h)
pos-divided g (negsuc n) h = times-neg g (suc n / g) ∙ ap (λ (m : ℕ). neg_ℤ (pos m)) (mul-div_cancel' g h)

-- a divisor times the quotient
pub divided_z : (g z : ℤ) → pos 0 <ℤ g → unsigned_abs g ∣ unsigned_abs z → g *ℤ int_div z g ≡ z
divided_z (pos g) z some h = pos-divided g z h
divided_z (negsuc g) z some h = absurd (omega (arith, ints))

-- the size of a product
pub size-product : (a : ℕ) (z : ℤ) → unsigned_abs (pos a *ℤ z) ≡ a * unsigned_abs z
size-product a (pos n) = refl
size-product a (negsuc n) = size-neg (a * suc n)

mag-neg : (q n : ℕ) → q ≤ suc n → mag (neg_ℤ (pos q)) ≤ n
mag-neg zero n h = omega arith
mag-neg (suc q) n h = omega arith

pos-quotient_fits : (g : ℕ) (z : ℤ) → FitsSigned w128 z → FitsSigned w128 (int_div z (pos g))
pos-quotient_fits g (pos n) h =
    let less : n / g ≤ n = div-le_self n g in
    let size : n < 2 ^ 127 = h.sfits in
    record { sfits = omega arith }
pos-quotient_fits g (negsuc n) h =
    let less : mag (neg_ℤ (pos (suc n / g))) ≤ n = mag-neg (suc n / g) n (div-le_self (suc n) g) in
    let size : n < 2 ^ 127 = h.sfits in
    record { sfits = omega arith }

-- a quotient by a positive number fits where the number does
pub quotient_fits : (g z : ℤ) → pos 0 <ℤ g → FitsSigned w128 z → FitsSigned w128 (int_div z g)
quotient_fits (pos g) z some h = pos-quotient_fits g z h
quotient_fits (negsuc g) z some h = absurd (omega (arith, ints))

size-zero : (z : ℤ) → unsigned_abs z ≡ 0 → z ≡ pos 0
size-zero (pos n) h = ap pos h
size-zero (negsuc n) h = absurd (omega arith)

-- what 0 or 1 divides is that many times itself
pub unit-times : (g z : ℤ) → pos 0 ≤ℤ g → g ≤ℤ pos 1 → unsigned_abs g ∣ unsigned_abs z → z ≡ g *ℤ z
unit-times (pos zero) z low high h = rw (size-zero z (eq-zero_of_zero-dvd h)) refl
unit-times (pos (suc zero)) z low high h = omega (arith, ints)
unit-times (pos (suc (suc g))) z low high h = absurd (omega (arith, ints))
unit-times (negsuc g) z low high h = absurd (omega (arith, ints))
