-- A number is one fraction in lowest terms.
use Rattle.std.proofs.Common.{ℕ, ◌^◌, ℤ, pos, negsuc, ◌*ℤ◌, ◌+ℤ◌, ◌≡◌, ◌≢◌, refl, sym, ap, ◌∙◌, arith}
use Rattle.std.specs.Prelude.{◌<ℤ◌}
use Rattle.std.specs.Int.{◌∣◌}
use Rattle.std.specs.Int.RustNames.{unsigned_abs}
use Rattle.std.proofs.Math.IntN.{*ℤ_comm}
use Rattle.std.proofs.Props.{props}
use Rattle.std.proofs.lemmas.Int.{ints}
use Rattle.std.proofs.lemmas.Nat.Gcd.{dvd_antisymm}
use mathlib.Core.HLevel.{is_prop→PathP}
use Rattle.bz_algebra.specs.Numbers.{IsNarrow}
use Rattle.bz_algebra.proofs.Divisors.{Bezout, bezout, divides_multiple}
use Rattle.bz_algebra.proofs.Ring.{*ℤ_assoc, add_mul, cancel_right, mul_add, mul_left, mul_right, one_mul, positive-ne}
use Rattle.bz_num.specs.declared.Dec.{Dec}
use Rattle.bz_num.specs.declared.Frac.{Frac}
use Rattle.bz_facts.specs.Spellings.{at_thirty}
use Rattle.bz_mps.specs.ColumnEnds.{IsFractionOf}

positive_is : (a : ℤ) → (pos 0) <ℤ a → pos (unsigned_abs a) ≡ a
positive_is (pos n) h = refl
positive_is (negsuc n) h = absurd (omega (arith, ints))

-- 1 is a sum of multiples of d and n, and n e is m d: so e is a multiple of d
sum_times : (d n e m x y : ℤ) → pos 1 ≡ (x *ℤ d) +ℤ (y *ℤ n) → n *ℤ e ≡ m *ℤ d → e ≡ d *ℤ ((x *ℤ e) +ℤ (y *ℤ m))
sum_times d n e m x y sum cross =
    sym (one_mul e)
    ∙ ap (λ (t : ℤ). t *ℤ e) sum
    ∙ add_mul (x *ℤ d) (y *ℤ n) e
    ∙ (λ i. ((*ℤ_assoc x d e ∙ mul_left x d e) i) +ℤ ((*ℤ_assoc y n e ∙ ap (λ (t : ℤ). y *ℤ t) (cross ∙ *ℤ_comm m d) ∙ mul_left y d m) i))
    ∙ sym (mul_add d (x *ℤ e) (y *ℤ m))

-- the denominator of a fraction in lowest terms divides that of every fraction with its value
lowest_divides : (n d m e : ℤ) → (pos 0) <ℤ d → ((k : ℕ) → k ∣ unsigned_abs n → k ∣ unsigned_abs d → k ≡ 1) → n *ℤ e ≡ m *ℤ d → unsigned_abs d ∣ unsigned_abs e
lowest_divides n d m e positive lowest cross = divides_whole
  where
    z : Bezout (pos (unsigned_abs d)) n
    z = bezout (unsigned_abs d) n

    unit : z.divisor ≡ 1
    unit = lowest z.divisor (divides_multiple z.divisor n z.second z.divides_second) (divides_multiple z.divisor (pos (unsigned_abs d)) z.first z.divides_first)

    sum : pos 1 ≡ (z.firsts *ℤ d) +ℤ (z.seconds *ℤ n)
    sum = ap pos (sym unit) ∙ z.is_sum ∙ ap (λ (t : ℤ). (z.firsts *ℤ t) +ℤ (z.seconds *ℤ n)) (positive_is d positive)

    whole : e ≡ pos (unsigned_abs d) *ℤ ((z.firsts *ℤ e) +ℤ (z.seconds *ℤ m))
    whole = sum_times d n e m z.firsts z.seconds sum cross ∙ ap (λ (t : ℤ). t *ℤ ((z.firsts *ℤ e) +ℤ (z.seconds *ℤ m))) (sym (positive_is d positive))

    divides_whole : unsigned_abs d ∣ unsigned_abs e
    divides_whole = divides_multiple (unsigned_abs d) e ((z.firsts *ℤ e) +ℤ (z.seconds *ℤ m)) whole

-- two fractions of one value
cross_products : (t p n d m e : ℤ) → p ≢ pos 0 → n *ℤ p ≡ t *ℤ d → m *ℤ p ≡ t *ℤ e → n *ℤ e ≡ m *ℤ d
cross_products t p n d m e ne h k =
    cancel_right (n *ℤ e) (m *ℤ d) p ne
    (mul_right n e p ∙ ap (λ (x : ℤ). x *ℤ e) h ∙ mul_right t d e ∙ ap (λ (x : ℤ). x *ℤ d) (sym k) ∙ mul_right m p d)

-- a record has one proof of what its numbers keep
frac_same : (f g : Frac) → f.num ≡ g.num → f.den ≡ g.den → f ≡ g
frac_same f g n d = λ i. record {
  num = n i;
  den = d i;
  positive = is_prop→PathP (λ j. pos 0 <ℤ d j) (λ j. hlevel props) f.positive g.positive i;
  narrow_num = is_prop→PathP (λ j. IsNarrow (n j)) (λ j. hlevel props) f.narrow_num g.narrow_num i;
  narrow_den = is_prop→PathP (λ j. IsNarrow (d j)) (λ j. hlevel props) f.narrow_den g.narrow_den i;
}

power_ne : pos (10 ^ 30) ≢ pos 0
power_ne = positive-ne (pos (10 ^ 30)) (omega (arith, ints))

pub same_fraction : (d : Dec) (f g : Frac) → IsFractionOf d f → IsFractionOf d g → f ≡ g
same_fraction d f g h k =
    let cross : f.num *ℤ g.den ≡ g.num *ℤ f.den = cross_products (at_thirty d) (pos (10 ^ 30)) f.num f.den g.num g.den power_ne h.value k.value in
    let down : unsigned_abs f.den ∣ unsigned_abs g.den = lowest_divides f.num f.den g.num g.den f.positive h.lowest cross in
    let back : unsigned_abs g.den ∣ unsigned_abs f.den = lowest_divides g.num g.den f.num f.den g.positive k.lowest (sym cross) in
    let dens : f.den ≡ g.den = sym (positive_is f.den f.positive) ∙ ap pos (dvd_antisymm down back) ∙ positive_is g.den g.positive in
    let nums : f.num ≡ g.num = cancel_right f.num g.num g.den (positive-ne g.den g.positive) (cross ∙ ap (λ (t : ℤ). g.num *ℤ t) dens) in
    frac_same f g nums dens
