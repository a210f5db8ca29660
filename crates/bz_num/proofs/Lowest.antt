-- Fractions divided by the greatest common divisor of their numbers.
use Rattle.std.proofs.Common.{ℕ, zero, suc, ◌*◌, ◌<◌, ℤ, pos, negsuc, ◌*ℤ◌, ◌<ℤ◌, ◌≤ℤ◌, ◌≡◌, sym, ap, ◌∙◌, subst, arith, mul-one}
use Rattle.std.specs.Int.{IsGcd, ◌∣◌}
use Rattle.std.specs.Int.RustNames.{unsigned_abs}
use Rattle.std.proofs.Math.Nat.{dvd_of_mul-dvd-mul_left, mul-dvd-mul_left, eq-one_of_dvd-one, eq-zero_of_zero-dvd}
use Rattle.std.proofs.lemmas.Int.{ints, unsigned_abs-mul}
use Rattle.bz_algebra.proofs.Ring.{*ℤ_assoc, cancel_lt_left, mul_left, mul_zero}
use Rattle.bz_num.specs.declared.fraction.Frac.{Frac}
use Rattle.bz_num.specs.Lowest.{IsLowest}

-- a greatest common divisor with a positive number is positive
pub divisor_some : (num den g : ℕ) → 0 < den → IsGcd num den g → 0 < g
divisor_some num den zero h gcd = let none : den ≡ 0 = eq-zero_of_zero-dvd gcd.1 in absurd (omega arith)
divisor_some num den (suc g) h gcd = omega arith

pub gcd_positive : (num den g : ℤ) → (pos 0) <ℤ den → (pos 0) ≤ℤ g → IsGcd (unsigned_abs num) (unsigned_abs den) (unsigned_abs g) → (pos 0) <ℤ g
gcd_positive num den g some sign gcd = by den g some sign (divisor_some (unsigned_abs num) (unsigned_abs den) (unsigned_abs g) (size den some) gcd)
  where
    size : (z : ℤ) → (pos 0) <ℤ z → 0 < unsigned_abs z
    size (pos n) h = omega (arith, ints)
    size (negsuc n) h = omega (arith, ints)

    by : (den g : ℤ) → (pos 0) <ℤ den → (pos 0) ≤ℤ g → 0 < unsigned_abs g → (pos 0) <ℤ g
    by den (pos n) h sign k = omega (arith, ints)
    by den (negsuc n) h sign k = absurd (omega (arith, ints))

-- a positive product and its first factor, which is not negative, make the second positive
pub other_positive : (den g q : ℤ) → (pos 0) <ℤ den → (pos 0) ≤ℤ g → den ≡ g *ℤ q → (pos 0) <ℤ q
other_positive den g q some sign p =
    cancel_lt_left g (pos 0) q sign (subst (λ (t : ℤ). t <ℤ (g *ℤ q)) (sym (mul_zero g)) (subst (λ (t : ℤ). (pos 0) <ℤ t) p some))

-- what is left of two numbers once their greatest common divisor is taken out has no common divisor but 1
no_divisor : (g a b n d k : ℕ) → 0 < g → a ≡ g * n → b ≡ g * d → IsGcd a b g → k ∣ n → k ∣ d → k ≡ 1
no_divisor g a b n d k some p q gcd h1 h2 =
    let first : g * k ∣ a = subst (λ x. g * k ∣ x) (sym p) (mul-dvd-mul_left k g h1) in
    let second : g * k ∣ b = subst (λ x. g * k ∣ x) (sym q) (mul-dvd-mul_left k g h2) in
    let whole : g * k ∣ g * 1 = subst (λ x. g * k ∣ x) (sym (mul-one g)) (gcd.2 (g * k) first second) in
    eq-one_of_dvd-one (dvd_of_mul-dvd-mul_left k some whole)

pub lowest_of : (num den g : ℤ) (f : Frac) → (pos 0) <ℤ g → num ≡ g *ℤ f.num → den ≡ g *ℤ f.den → IsGcd (unsigned_abs num) (unsigned_abs den) (unsigned_abs g) → IsLowest num den f
lowest_of num den g f some p q gcd = record {
  value = ap (λ (t : ℤ). f.num *ℤ t) q ∙ mul_left f.num g f.den ∙ sym (*ℤ_assoc g f.num f.den) ∙ ap (λ (t : ℤ). t *ℤ f.den) (sym p);
  lowest = λ k. no_divisor (unsigned_abs g) (unsigned_abs num) (unsigned_abs den) (unsigned_abs f.num) (unsigned_abs f.den) k (size_some g some)
      (ap unsigned_abs p ∙ unsigned_abs-mul g f.num) (ap unsigned_abs q ∙ unsigned_abs-mul g f.den) gcd;
}
  where
    size_some : (g : ℤ) → (pos 0) <ℤ g → 0 < unsigned_abs g
    size_some (pos n) h = omega (arith, ints)
    size_some (negsuc n) h = omega (arith, ints)
