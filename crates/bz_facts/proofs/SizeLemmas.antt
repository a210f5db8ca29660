-- Numbers of size 10^20 or more.
use Rattle.std.proofs.Common.{ℕ, pos, ◌+◌, ◌*◌, ◌^◌, ◌<◌, ◌≤◌, ◌≡◌, ◌+ℤ◌, refl, sym, ap, ◌∙◌, subst, arith, Bool, true, false, nat_le, nat_lt}
use Rattle.std.specs.Int.RustNames.{unsigned_abs}
use Rattle.std.proofs.Math.IntN.{*ℤ_comm}
use Rattle.std.proofs.Math.Nat.{mul-le-mul_right, mul-lt-mul_of_pos_right, pow-le-pow_right}
use Rattle.std.proofs.lemmas.Bool.{le-leb, leb-true, leb-false, lt-leb, ltb-true, ltb-false}
use Rattle.std.proofs.lemmas.Nat.{pow-add}
use Rattle.bz_num.specs.declared.decimal.Dec.{Dec}
use Rattle.bz_num.proofs.Divisors.{size-product}
use Rattle.bz_facts.specs.Spellings.{at_thirty, is_infinite}

-- the size, 10^30 times as large
size_at : (d : Dec) (shift : ℕ) → unsigned_abs (d.exp +ℤ pos 30) ≡ shift → unsigned_abs (at_thirty d) ≡ 10 ^ shift * unsigned_abs d.mant
size_at d shift e =
    ap unsigned_abs (*ℤ_comm d.mant (pos (10 ^ unsigned_abs (d.exp +ℤ pos 30))))
    ∙ size-product (10 ^ unsigned_abs (d.exp +ℤ pos 30)) d.mant
    ∙ ap (λ n. 10 ^ n * unsigned_abs d.mant) e

-- a positive power of ten
power_positive : (s : ℕ) → 1 ≤ 10 ^ s
power_positive s = pow-le-pow_right {n = 10} (omega arith) {i = 0} {j = s} (omega arith)

-- where the power alone is large enough
pub large : (n s : ℕ) → 50 ≤ s → nat_lt 0 n ≡ nat_le (10 ^ 50) (10 ^ s * n)
large n s h = by (nat_lt 0 n) refl
  where
    by : (b : Bool) → nat_lt 0 n ≡ b → b ≡ nat_le (10 ^ 50) (10 ^ s * n)
    by true e =
        let power : 10 ^ 50 ≤ 10 ^ s = pow-le-pow_right {n = 10} (omega arith) {i = 50} {j = s} h in
        let some : 0 < n = ltb-true 0 n e in
        let times : 1 * 10 ^ s ≤ n * 10 ^ s = mul-le-mul_right (10 ^ s) (omega arith) in
        sym (le-leb (10 ^ 50) (10 ^ s * n) (omega arith))
    by false e =
        let none : n ≤ 0 = ltb-false 0 n e in
        let zero : n ≡ 0 = omega arith in
        sym (lt-leb (10 ^ 50) (10 ^ s * n) (subst (λ n. 10 ^ s * n < 10 ^ 50) (sym zero) (omega arith)))

-- where it is too small for any mantissa
pub small : (n s : ℕ) → n < 10 ^ 30 → s ≤ 20 → false ≡ nat_le (10 ^ 50) (10 ^ s * n)
small n s h l =
    let power : 10 ^ s ≤ 10 ^ 20 = pow-le-pow_right {n = 10} (omega arith) {i = s} {j = 20} l in
    let times : n * 10 ^ s ≤ n * 10 ^ 20 = mul-le-mul_left' n (10 ^ s) (10 ^ 20) power in
    sym (lt-leb (10 ^ 50) (10 ^ s * n) (omega arith))
  where
    mul-le-mul_left' : (n a b : ℕ) → a ≤ b → n * a ≤ n * b
    mul-le-mul_left' n a b h = grind arith

-- and in between, by the power that is missing
pub between : (n s m : ℕ) → m + s ≡ 50 → nat_le (10 ^ m) n ≡ nat_le (10 ^ 50) (10 ^ s * n)
between n s m e = by (nat_le (10 ^ m) n) refl
  where
    whole : 10 ^ 50 ≡ 10 ^ m * 10 ^ s
    whole = ap (λ k. 10 ^ k) (sym e) ∙ pow-add 10 m s

    by : (b : Bool) → nat_le (10 ^ m) n ≡ b → b ≡ nat_le (10 ^ 50) (10 ^ s * n)
    by true f =
        let at_least : 10 ^ m ≤ n = leb-true (10 ^ m) n f in
        let times : 10 ^ m * 10 ^ s ≤ n * 10 ^ s = mul-le-mul_right (10 ^ s) at_least in
        sym (le-leb (10 ^ 50) (10 ^ s * n) (omega (arith, whole)))
    by false f =
        let below : n < 10 ^ m = leb-false (10 ^ m) n f in
        let some : 1 ≤ 10 ^ s = power_positive s in
        let times : n * 10 ^ s < 10 ^ m * 10 ^ s = mul-lt-mul_of_pos_right below (omega arith) in
        sym (lt-leb (10 ^ 50) (10 ^ s * n) (omega (arith, whole)))

pub infinite-by : (d : Dec) (shift n : ℕ) (b : Bool) → shift ≡ unsigned_abs (d.exp +ℤ pos 30) → n ≡ unsigned_abs d.mant → b ≡ nat_le (10 ^ 50) (10 ^ shift * n) → b ≡ is_infinite d
infinite-by d shift n b e m h =
    h ∙ ap (λ n. nat_le (10 ^ 50) (10 ^ shift * n)) m ∙ ap (nat_le (10 ^ 50)) (sym (size_at d shift (sym e)))
