-- A direction divided by the greatest common divisor of its numbers is one as well, and primitive.
use Rattle.std.specs.Prelude.{ℕ, ◌≡◌, ℤ, pos, ◌*ℤ◌, ◌≤ℤ◌, ◌<ℤ◌, unsigned_abs}
use Rattle.std.proofs.Common.{ap, ◌∙◌, arith}
use Rattle.std.proofs.lemmas.Int.{ints, by_lt_z, unsigned_abs-mul}
use Rattle.std.proofs.Math.Nat.{dvd-mul_right, eq-one_of_dvd-one}
use Rattle.bz_algebra.specs.Sums.{upto}
use Rattle.bz_algebra.proofs.Divisors.{CommonDivisor, common_divisor, part, part_is}
use Rattle.bz_algebra.proofs.Ring.{cancel_le_left, cancel_lt_left, cancel_positive, mul_left, mul_one, mul_zero, zero_mul}
use Rattle.bz_algebra.proofs.SumLemmas.{upto_same, upto_scale}
use Rattle.bz_farkas.specs.Falls.{IsFall, IsPrimitive, HasFall}

-- numbers with a sum of multiples that is 1 have no common divisor but 1
sum_primitive : (n : ℕ) (v y : ℕ → ℤ) → pos 1 ≡ upto n (λ j. y j *ℤ v j) → IsPrimitive n v
sum_primitive n v y e g h = eq-one_of_dvd-one (rw (ap unsigned_abs once ∙ unsigned_abs-mul (pos g) _) (dvd-mul_right g _))
  where
    once : pos 1 ≡ pos g *ℤ upto n (λ j. y j *ℤ part g (v j))
    once = e ∙ upto_same n _ _ (λ j b. ap (λ (t : ℤ). y j *ℤ t) (part_is g (v j) (h j b)) ∙ mul_left (y j) (pos g) (part g (v j))) ∙ upto_scale n (pos g) (λ j. y j *ℤ part g (v j))

-- a sum over the direction is the divisor times that over the quotients
sum_divided : (n : ℕ) (f d : ℕ → ℤ) (c : CommonDivisor n d) → upto n (λ j. f j *ℤ d j) ≡ pos c.divisor *ℤ upto n (λ j. f j *ℤ c.quotient j)
sum_divided n f d c = upto_same n _ _ (λ j b. ap (λ (t : ℤ). f j *ℤ t) (c.divides j b) ∙ mul_left (f j) (pos c.divisor) (c.quotient j)) ∙ upto_scale n (pos c.divisor) (λ j. f j *ℤ c.quotient j)

-- with the divisor 0 it is 0
nothing : (n : ℕ) (f d : ℕ → ℤ) (c : CommonDivisor n d) → (pos c.divisor) ≤ℤ (pos 0) → upto n (λ j. f j *ℤ d j) ≡ pos 0
nothing n f d c z = let e : pos c.divisor ≡ pos 0 = omega (arith, ints) in sum_divided n f d c ∙ ap (λ (t : ℤ). t *ℤ upto n (λ j. f j *ℤ c.quotient j)) e ∙ zero_mul (upto n (λ j. f j *ℤ c.quotient j))

divided : (n m : ℕ) (term : ℕ → ℕ → ℤ) (cost d : ℕ → ℤ) (c : CommonDivisor n d) → IsFall n m term cost d → (pos 0) <ℤ (pos c.divisor) → IsFall n m term cost c.quotient × IsPrimitive n c.quotient
divided n m term cost d c h p = (
  record {
    rows_hold = λ i b. cancel_le_left (pos c.divisor) (along (term i)) (pos 0) p (rw (mul_zero (pos c.divisor), ← sum_divided n (term i) d c) (h.rows_hold i b));
    cost_falls = cancel_lt_left (pos c.divisor) (along cost) (pos 0) (omega (arith, ints)) (rw (mul_zero (pos c.divisor), ← sum_divided n cost d c) h.cost_falls);
  },
  sum_primitive n c.quotient c.times (cancel_positive (pos c.divisor) (pos 1) (along c.times) p (mul_one (pos c.divisor) ∙ c.is_sum ∙ sum_divided n c.times d c)),
)
  where
    along : (ℕ → ℤ) → ℤ
    along f = upto n (λ j. f j *ℤ c.quotient j)

pub primitive_fall : (n m : ℕ) (term : ℕ → ℕ → ℤ) (cost : ℕ → ℤ) → HasFall n m term cost → (d : ℕ → ℤ) × IsFall n m term cost d × IsPrimitive n d
primitive_fall n m term cost f = let c = common_divisor n f.0 in by_lt_z (pos 0) (pos c.divisor)
    (λ p. let r = divided n m term cost f.0 c f.1 p in (c.quotient, r.0, r.1))
    (λ z. absurd (omega (arith, ints, f.1.cost_falls, nothing n cost f.0 c z)))
