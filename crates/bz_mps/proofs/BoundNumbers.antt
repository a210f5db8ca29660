-- Fractions in lowest terms, and powers of ten.
use Rattle.std.proofs.Common.{ℕ, suc, ◌^◌, ◌*◌, ◌+◌, ◌<◌, ◌≤◌, ℤ, pos, negsuc, ◌*ℤ◌, ◌+ℤ◌, ◌<ℤ◌, ◌≤ℤ◌, ◌≡◌, ◌≢◌, false, refl, sym, ap, ◌∙◌, subst, arith}
use Rattle.std.specs.Prelude.{nat_le}
use Rattle.std.specs.Int.RustNames.{unsigned_abs}
use Rattle.std.proofs.Math.Nat.{pow-le-pow_right}
use Rattle.std.proofs.lemmas.Int.{ints, unsigned_abs-mul}
use Rattle.std.proofs.lemmas.Nat.{pow-add}
use Rattle.bz_algebra.proofs.Ring.{*ℤ_assoc, cancel_right, mul_right, mul_one, positive-ne}
use Rattle.bz_num.specs.declared.Dec.{Dec}
use Rattle.bz_num.specs.declared.Frac.{Frac}
use Rattle.bz_num.specs.Decimals.{IsWithinLimits}
use Rattle.bz_num.specs.Lowest.{IsLowest}
use Rattle.bz_facts.specs.Spellings.{at_thirty, is_infinite}
use Rattle.bz_mps.specs.ColumnEnds.{IsFractionOf}

pub power_fits : (e : ℕ) → e ≤ 38 → 10 ^ e ≤ 10 ^ 38
power_fits e h = pow-le-pow_right {n = 10} (omega arith) {i = e} {j = 38} h

-- a power of ten is positive
pub power_some : (e : ℕ) → 1 ≤ 10 ^ e
power_some e = pow-le-pow_right {n = 10} (omega arith) {i = 0} {j = e} (omega arith)

-- n / d is N / D, and T / P is too
same_value : (n d N D T P : ℤ) → D ≢ pos 0 → n *ℤ D ≡ N *ℤ d → T *ℤ D ≡ N *ℤ P → n *ℤ P ≡ T *ℤ d
same_value n d N D T P ne h k =
    cancel_right (n *ℤ P) (T *ℤ d) D ne
    (mul_right n P D ∙ ap (λ (x : ℤ). x *ℤ P) h ∙ mul_right N d P ∙ ap (λ (x : ℤ). x *ℤ d) (sym k) ∙ mul_right T D d)

-- a decimal with a point, and one without, 10^30 times as large
point_at_thirty : (m : ℤ) (n : ℕ) → n < 30 → (m *ℤ pos (10 ^ unsigned_abs (negsuc n +ℤ pos 30))) *ℤ pos (10 ^ suc n) ≡ m *ℤ pos (10 ^ 30)
point_at_thirty m n h =
    let rest : unsigned_abs (negsuc n +ℤ pos 30) + suc n ≡ 30 = omega (arith, ints) in
    *ℤ_assoc m (pos (10 ^ unsigned_abs (negsuc n +ℤ pos 30))) (pos (10 ^ suc n))
    ∙ ap (λ e. m *ℤ pos e) (sym (pow-add 10 (unsigned_abs (negsuc n +ℤ pos 30)) (suc n)) ∙ ap (λ e. 10 ^ e) rest)

whole_at_thirty : (m : ℤ) (n : ℕ) → (m *ℤ pos (10 ^ (n + 30))) *ℤ pos 1 ≡ (m *ℤ pos (10 ^ n)) *ℤ pos (10 ^ 30)
whole_at_thirty m n =
    mul_one (m *ℤ pos (10 ^ (n + 30))) ∙ ap (λ e. m *ℤ pos e) (pow-add 10 n 30) ∙ sym (*ℤ_assoc m (pos (10 ^ n)) (pos (10 ^ 30)))

pub fraction_below : (d : Dec) (f : Frac) (n : ℕ) → n < 30 → d.exp ≡ negsuc n → IsLowest d.mant (pos (10 ^ suc n)) f → IsFractionOf d f
fraction_below d f n h e l = record {
  value = same_value f.num f.den d.mant (pos (10 ^ suc n)) (at_thirty d) (pos (10 ^ 30)) some l.value (ap (λ (z : ℤ). (d.mant *ℤ pos (10 ^ unsigned_abs (z +ℤ pos 30))) *ℤ pos (10 ^ suc n)) e ∙ point_at_thirty d.mant n h);
  lowest = l.lowest;
}
  where
    some : pos (10 ^ suc n) ≢ pos 0
    some = let large : 1 ≤ 10 ^ suc n = power_some (suc n) in positive-ne (pos (10 ^ suc n)) (omega (arith, ints))

pub fraction_above : (d : Dec) (f : Frac) (n : ℕ) → d.exp ≡ pos n → IsLowest (d.mant *ℤ pos (10 ^ n)) (pos 1) f → IsFractionOf d f
fraction_above d f n e l = record {
  value = same_value f.num f.den (d.mant *ℤ pos (10 ^ n)) (pos 1) (at_thirty d) (pos (10 ^ 30)) (positive-ne (pos 1) (omega (arith, ints))) l.value (ap (λ (z : ℤ). (d.mant *ℤ pos (10 ^ unsigned_abs (z +ℤ pos 30))) *ℤ pos 1) e ∙ whole_at_thirty d.mant n);
  lowest = l.lowest;
}

pub finite_above : (d : Dec) (n : ℕ) → d.exp ≡ pos n → is_infinite d ≡ false → unsigned_abs (d.mant *ℤ pos (10 ^ n)) < 10 ^ 20
finite_above d n e h =
    let less : unsigned_abs (at_thirty d) < 10 ^ 50 = less_of (unsigned_abs (at_thirty d)) h in
    let size : unsigned_abs (at_thirty d) ≡ unsigned_abs (d.mant *ℤ pos (10 ^ n)) * 10 ^ 30 =
    ap unsigned_abs (ap (λ (z : ℤ). d.mant *ℤ pos (10 ^ unsigned_abs (z +ℤ pos 30))) e ∙ sym (mul_one (d.mant *ℤ pos (10 ^ (n + 30)))) ∙ whole_at_thirty d.mant n)
    ∙ unsigned_abs-mul (d.mant *ℤ pos (10 ^ n)) (pos (10 ^ 30)) in
    omega arith
  where
    less_of : (s : ℕ) → nat_le (10 ^ 50) s ≡ false → s < 10 ^ 50
    less_of s h = grind arith

-- the fraction of a decimal with a point, where p is the power of ten that makes it whole
pub fraction_with_point : (d : Dec) (f : Frac) (p : ℤ) → d.exp <ℤ (pos 0) → IsWithinLimits d → p ≡ pos (10 ^ unsigned_abs d.exp) → IsLowest d.mant p f → IsFractionOf d f
fraction_with_point d f p h within e l = by d.exp refl h within.exp
  where
    by : (z : ℤ) → d.exp ≡ z → z <ℤ (pos 0) → unsigned_abs z ≤ 30 → IsFractionOf d f
    by (pos n) same h few = absurd (omega (arith, ints))
    by (negsuc n) same h few = fraction_below d f n (omega (arith, ints)) same (subst (λ (x : ℤ). IsLowest d.mant x f) (e ∙ ap (λ (z : ℤ). pos (10 ^ unsigned_abs z)) same) l)

-- and of one without, where p is its power of ten
pub fraction_without_point : (d : Dec) (f : Frac) (p : ℤ) → (pos 0) ≤ℤ d.exp → p ≡ pos (10 ^ unsigned_abs d.exp) → IsLowest (d.mant *ℤ p) (pos 1) f → IsFractionOf d f
fraction_without_point d f p h e l = by d.exp refl h
  where
    by : (z : ℤ) → d.exp ≡ z → (pos 0) ≤ℤ z → IsFractionOf d f
    by (pos n) same h = fraction_above d f n same (subst (λ (x : ℤ). IsLowest (d.mant *ℤ x) (pos 1) f) (e ∙ ap (λ (z : ℤ). pos (10 ^ unsigned_abs z)) same) l)
    by (negsuc n) same h = absurd (omega (arith, ints))

-- a finite decimal without a point is not wide
pub finite_without_point : (d : Dec) (p : ℤ) → (pos 0) ≤ℤ d.exp → p ≡ pos (10 ^ unsigned_abs d.exp) → is_infinite d ≡ false → unsigned_abs (d.mant *ℤ p) < 10 ^ 20
finite_without_point d p h e finite = by d.exp refl h
  where
    by : (z : ℤ) → d.exp ≡ z → (pos 0) ≤ℤ z → unsigned_abs (d.mant *ℤ p) < 10 ^ 20
    by (pos n) same h = subst (λ (x : ℤ). unsigned_abs (d.mant *ℤ x) < 10 ^ 20) (sym (e ∙ ap (λ (z : ℤ). pos (10 ^ unsigned_abs z)) same)) (finite_above d n same finite)
    by (negsuc n) same h = absurd (omega (arith, ints))
