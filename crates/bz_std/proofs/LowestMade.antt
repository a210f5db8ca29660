-- Numbers divided by their greatest common divisor.
use Rattle.std.proofs.Common.{◌≡◌, ◌≢◌, sym, ap, subst, ◌∙◌, ℕ, ◌*◌, List, length, take, drop, ◌++◌, arith, ℤ, pos, ◌*ℤ◌, ◌<ℤ◌, ◌≤ℤ◌}
use Rattle.std.proofs.Math.Nat.{dvd_of_mul-dvd-mul_left, dvd_trans, eq-one_of_dvd-one, eq-zero_of_zero-dvd, mul-dvd-mul_left}
use Rattle.std.proofs.Math.Seq.{take-length}
use Rattle.std.proofs.lemmas.Int.{ints, unsigned_abs-mul}
use Rattle.std.proofs.lemmas.List.{take-append-le}
use Rattle.std.specs.Int.{IsGcd, ◌∣◌}
use Rattle.std.specs.Int.RustNames.{unsigned_abs}
use Rattle.bz_algebra.proofs.Ring.{by_sign, positive-ne}
use Rattle.bz_num.proofs.Quotients.{nonzero_size, zero_from_size}
use Rattle.bz_num.specs.Dense.{DividesRow, IsDivided, IsDivisorOf, entry}
use Rattle.bz_std.specs.LowestForms.{IsLowestOf}

-- a slice of the whole list, written back, is the list
pub written_back : (n : ℕ) (new items : List ℤ) → n ≡ length items → length new ≡ length items → take n (new ++ drop (length new) items) ≡ new
written_back n new items e f = take-append-le n new (drop (length new) items) (omega arith) ∙ subst (λ (m : ℕ). take m new ≡ new) (f ∙ sym e) (take-length new)

-- a divisor of a number that isn't 0 is positive
pub divisor_of_some : (g z : ℤ) → z ≢ pos 0 → (pos 0) ≤ℤ g → unsigned_abs g ∣ unsigned_abs z → (pos 0) <ℤ g
divisor_of_some g z n h d = by_sign g (λ k. absurd (omega (arith, ints))) (λ e. absurd (n (zero_from_size z (eq-zero_of_zero-dvd (subst (λ (k : ℤ). unsigned_abs k ∣ unsigned_abs z) e d))))) (λ k. k)

-- what divides the divisor of a row divides the row
pub divides_all : (g h : ℕ) (row : List ℤ) → g ∣ h → IsDivisorOf h row → DividesRow g row
divides_all g h row d k j l = dvd_trans g d (k.divides j l)

module _ (g den small : ℤ) (old new : List ℤ) (common : ℕ) (some : (pos 0) <ℤ g) (is_gcd : IsGcd (unsigned_abs den) common (unsigned_abs g)) (of_row : IsDivisorOf common old) (whole : den ≡ g *ℤ small) (divided : IsDivided g old new) where
  grown : (d : ℕ) (z x : ℤ) → z ≡ g *ℤ x → d ∣ unsigned_abs x → (unsigned_abs g * d) ∣ unsigned_abs z
  grown d z x e h = subst (λ (m : ℕ). (unsigned_abs g * d) ∣ m) (sym (ap unsigned_abs e ∙ unsigned_abs-mul g x)) (mul-dvd-mul_left d (unsigned_abs g) h)

  only_one : (d : ℕ) → d ∣ unsigned_abs small → DividesRow d new → d ≡ 1
  only_one d h all =
      let row : (unsigned_abs g * d) ∣ common = of_row.greatest (unsigned_abs g * d) (λ j l. grown d (entry old j) (entry new j) (divided.numbers j l) (all j (omega (arith, divided.width)))) in
      let both : (unsigned_abs g * d) ∣ unsigned_abs g = is_gcd.2 (unsigned_abs g * d) (grown d den small whole h) row in
      let one : unsigned_abs g * 1 ≡ unsigned_abs g = omega arith in
      eq-one_of_dvd-one (dvd_of_mul-dvd-mul_left d (nonzero_size g (positive-ne g some)) (subst (λ (m : ℕ). (unsigned_abs g * d) ∣ m) (sym one) both))

  pub lowest_is : IsLowestOf (length old) den (entry old) small new
  lowest_is = record {
    count = divided.width;
    times = g;
    positive = some;
    den_is = sym whole;
    values_are = λ j l. sym (divided.numbers j l);
    lowest = λ d h all. only_one d h (λ j l. all j (omega (arith, divided.width)));
  }
