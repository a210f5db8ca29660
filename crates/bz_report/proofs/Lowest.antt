-- The greatest common divisor by trying each number, and the one form of a fraction in lowest terms.
use Rattle.std.proofs.Common.{ℕ, zero, suc, ◌*◌, ◌/◌, ◌%◌, ◌<◌, ◌≤◌, ◌≡◌, ◌≢◌, ◌==◌, refl, sym, ap, subst, ◌∙◌, arith, inl, inr, mul-one, ℤ, pos, negsuc, ◌*ℤ◌, ◌<ℤ◌, true, false, List, [], ◌∷◌}
use Rattle.std.specs.Int.{IsGcd, ◌∣◌}
use Rattle.std.specs.Int.RustNames.{unsigned_abs}
use Rattle.std.proofs.lemmas.Bool.{and_from, and_parts, cases_Bool, cases_eq, eq-eqb, eqb-true}
use Rattle.std.proofs.lemmas.Int.{ints, unsigned_abs-mul}
use Rattle.std.proofs.lemmas.Nat.Gcd.{IsGcd-from_mod, IsGcd-from_zero, dvd_of_mod-eq-zero, le_from_IsGcd, le_of_dvd, mod-eq-zero_of_dvd}
use Rattle.std.proofs.Math.IntN.{*ℤ_comm}
use Rattle.std.proofs.Math.Nat.{dvd-mul_right, dvd_of_mul-dvd-mul_left, eq-one_of_dvd-one, mod-lt, mul-div_cancel', mul-dvd-mul_left, one-dvd, zero-lt-suc}
use Rattle.bz_algebra.specs.Fractions.{Fraction, IsSameNumber}
use Rattle.bz_algebra.proofs.Ring.{*ℤ_assoc, cancel_right, mul_left, mul_right, positive-ne}
use Rattle.bz_num.proofs.Divisors.{divided_z}
use Rattle.bz_num.proofs.Lowest.{divisor_some, other_positive}
use Rattle.bz_model.specs.Points.{coordinate}
use Rattle.bz_model.specs.Stated.{IsReduced}
use Rattle.bz_std.specs.LowestForms.{IsLowestOf as IsLowestForm}
use Rattle.bz_std.proofs.OneLowest.{one_lowest}
use Rattle.bz_report.specs.LowestTerms.{IsLowestOf, LowestTermsAreOne, common_divisor, divides_both, greatest_divisor, lowest}

-- ---- the greatest common divisor
-- what the test tells, and that it holds
test_tells : (k a b : ℕ) → divides_both k a b ≡ true → (k ∣ a) × (k ∣ b)
test_tells k a b t =
    let both = and_parts (a % k == 0) (b % k == 0) t in
    (dvd_of_mod-eq-zero k (eqb-true (a % k) 0 both.0), dvd_of_mod-eq-zero k (eqb-true (b % k) 0 both.1))

test_holds : (k a b : ℕ) → k ∣ a → k ∣ b → divides_both k a b ≡ true
test_holds k a b h g =
    and_from (a % k == 0) (b % k == 0) (eq-eqb (a % k) 0 (mod-eq-zero_of_dvd k h)) (eq-eqb (b % k) 0 (mod-eq-zero_of_dvd k g))

-- what is found divides both
found_divides : (a b n : ℕ) → (greatest_divisor a b n ∣ a) × (greatest_divisor a b n ∣ b)
found_divides a b zero = (one-dvd a, one-dvd b)
found_divides a b (suc n) = elim (cases_Bool (divides_both (suc n) a b)) [
  | inl t ↦ rw t (test_tells (suc n) a b t)
  | inr t ↦ rw t (found_divides a b n)
]

-- no greater number up to n divides both
found_greatest : (a b n k : ℕ) → 0 < k → k ≤ n → k ∣ a → k ∣ b → k ≤ greatest_divisor a b n
found_greatest a b zero k some l h g = absurd (omega arith)
found_greatest a b (suc n) k some l h g = elim (cases_Bool (divides_both (suc n) a b)) [
  | inl t ↦ rw t l
  | inr t ↦ elim (cases_eq k (suc n)) [
    | inl e ↦
        let yes : divides_both (suc n) a b ≡ true = subst (λ (x : ℕ). divides_both x a b ≡ true) e (test_holds k a b h g) in
        let wrong : true ≡ false = sym yes ∙ t in
        absurd cc
    | inr d ↦ rw t (found_greatest a b n k some (omega (arith, l, d)) h g)
  ]
]

-- two numbers have a greatest common divisor, by Euclid's steps
gcd_there : (n a b : ℕ) → b < n → (g : ℕ) × IsGcd a b g
gcd_there zero a b h = absurd (omega arith)
gcd_there (suc n) a zero h = (a, IsGcd-from_zero a 0 refl)
gcd_there (suc n) a (suc b) h =
    let rest = gcd_there n (suc b) (a % suc b) (omega (arith, mod-lt a {m = suc b} (zero-lt-suc b))) in
    (rest.0, IsGcd-from_mod a (suc b) rest.0 rest.1)

same_both : (a b : ℕ) → a ≤ b → b ≤ a → a ≡ b
same_both a b h g = omega (arith, h, g)

-- what is found is that one
pub found_is_gcd : (a b : ℕ) → 0 < b → IsGcd a b (greatest_divisor a b b)
found_is_gcd a b some =
    let own = gcd_there (suc b) a b (omega arith) in
    let there : 0 < own.0 = divisor_some a b own.0 some own.1 in
    let within : own.0 ≤ b = le_of_dvd some own.1.1 in
    let found = found_divides a b b in
    let most : own.0 ≤ greatest_divisor a b b = found_greatest a b b own.0 there within own.1.0 own.1.1 in
    let least : greatest_divisor a b b ≤ own.0 = le_from_IsGcd a b own.0 (greatest_divisor a b b) own.1 there found.0 found.1 in
    subst (IsGcd a b) (same_both own.0 (greatest_divisor a b b) most least) own.1

-- ---- the form in lowest terms
-- what is left of two numbers once their greatest common divisor is taken out has no common divisor but 1
no_divisor : (g a b n d k : ℕ) → 0 < g → a ≡ g * n → b ≡ g * d → IsGcd a b g → k ∣ n → k ∣ d → k ≡ 1
no_divisor g a b n d k some p q gcd h1 h2 =
    let first : g * k ∣ a = subst (λ x. g * k ∣ x) (sym p) (mul-dvd-mul_left k g h1) in
    let second : g * k ∣ b = subst (λ x. g * k ∣ x) (sym q) (mul-dvd-mul_left k g h2) in
    let whole : g * k ∣ g * 1 = subst (λ x. g * k ∣ x) (sym (mul-one g)) (gcd.2 (g * k) first second) in
    eq-one_of_dvd-one (dvd_of_mul-dvd-mul_left k some whole)

size_some : (z : ℤ) → (pos 0) <ℤ z → 0 < unsigned_abs z
size_some (pos n) h = omega (arith, ints)
size_some (negsuc n) h = omega (arith, ints)

-- two numbers that g times the others are, where g is their greatest common divisor
pub divided_is_lowest : (g : ℕ) (f low : Fraction) → (pos 0) <ℤ f.den → IsGcd (unsigned_abs f.num) (unsigned_abs f.den) g → f.num ≡ pos g *ℤ low.num → f.den ≡ pos g *ℤ low.den → IsLowestOf f low
divided_is_lowest g f low positive gcd p q = record {
  reduced = record {
    positive = other_positive f.den (pos g) low.den positive (omega (arith, ints)) q;
    coprime = λ k i j h1 h2. no_divisor g (unsigned_abs f.num) (unsigned_abs f.den) (unsigned_abs low.num) (unsigned_abs low.den) k some
        (ap unsigned_abs p ∙ unsigned_abs-mul (pos g) low.num) (ap unsigned_abs q ∙ unsigned_abs-mul (pos g) low.den) gcd
        (rw h1 (dvd-mul_right k i)) (rw h2 (dvd-mul_right k j));
  };
  same = ap (λ (t : ℤ). low.num *ℤ t) q ∙ mul_left low.num (pos g) low.den ∙ sym (*ℤ_assoc (pos g) low.num low.den) ∙ ap (λ (t : ℤ). t *ℤ low.den) (sym p);
}
  where
    some : 0 < g
    some = divisor_some (unsigned_abs f.num) (unsigned_abs f.den) g (size_some f.den positive) gcd

pub lowest_is_lowest : (f : Fraction) → (pos 0) <ℤ f.den → IsLowestOf f (lowest f)
unfolding lowest common_divisor
lowest_is_lowest f positive =
    let gcd = found_is_gcd (unsigned_abs f.num) (unsigned_abs f.den) (size_some f.den positive) in
    let some : 0 < common_divisor f = divisor_some (unsigned_abs f.num) (unsigned_abs f.den) (common_divisor f) (size_some f.den positive) gcd in
    let above : (pos 0) <ℤ (pos (common_divisor f)) = omega (arith, ints, some) in
    divided_is_lowest (common_divisor f) f (lowest f) positive gcd
    (sym (divided_z (pos (common_divisor f)) f.num above gcd.0))
    (sym (divided_z (pos (common_divisor f)) f.den above gcd.1))

-- ---- there is one such form
-- two fractions are one number where both are the number of a third
pub same_through : (a b c d e f : ℤ) → f ≢ pos 0 → a *ℤ f ≡ e *ℤ b → c *ℤ f ≡ e *ℤ d → a *ℤ d ≡ c *ℤ b
same_through a b c d e f other p q = cancel_right (a *ℤ d) (c *ℤ b) f other
    (mul_right a d f ∙ ap (λ (t : ℤ). t *ℤ d) p ∙ mul_right e b d ∙ ap (λ (t : ℤ). t *ℤ b) (sym q) ∙ mul_right c f b)

-- a reduced fraction, taken the same number of times, is in lowest form
reduced_form : (low : Fraction) (times num den : ℤ) → IsReduced low → (pos 0) <ℤ times → times *ℤ low.den ≡ den → times *ℤ low.num ≡ num → IsLowestForm 1 den (λ j. num) low.den (low.num ∷ [])
reduced_form low times num den r some p q = record {
  count = refl;
  times = times;
  positive = some;
  den_is = p;
  values_are = λ j l. by j l;
  lowest = λ d h1 h2. r.coprime d (unsigned_abs low.num / d) (unsigned_abs low.den / d) (sym (mul-div_cancel' d (h2 0 (omega arith)))) (sym (mul-div_cancel' d h1));
}
  where
    by : (j : ℕ) → j < 1 → times *ℤ coordinate (low.num ∷ []) j ≡ num
    by zero l = q
    by (suc j) l = absurd (omega (arith, l))

pub reduced_is_one : (low other : Fraction) → IsReduced low → IsReduced other → IsSameNumber low other → low ≡ other
reduced_is_one low other r s same =
    let den : ℤ = other.den *ℤ low.den in
    let num : ℤ = other.den *ℤ low.num in
    let one = one_lowest 1 den (λ j. num) low.den other.den (low.num ∷ []) (other.num ∷ [])
    (reduced_form low other.den num den r s.positive refl refl)
    (reduced_form other low.den num den s r.positive (*ℤ_comm low.den other.den) (*ℤ_comm low.den other.num ∙ sym same ∙ *ℤ_comm low.num other.den)) in
    let nums : low.num ≡ other.num = ap (λ (xs : List ℤ). coordinate xs 0) one.1 in
    let dens : low.den ≡ other.den = one.0 in
    λ i. record { num = nums i; den = dens i }

pub lowest_terms_are_one : LowestTermsAreOne
lowest_terms_are_one f positive =
    let own = lowest_is_lowest f positive in (
      own,
      λ low l. reduced_is_one low (lowest f) l.reduced own.reduced
          (same_through low.num low.den (lowest f).num (lowest f).den f.num f.den (positive-ne f.den positive) l.same own.same),
    )
