-- Rows divided by their greatest common divisor, number by number.
use Rattle.std.proofs.Common.{◌≡◌, ◌≢◌, refl, ap, sym, subst, ◌∙◌, inl, inr, ℕ, ◌+◌, ◌*◌, ◌<◌, ◌≤◌, arith, ℤ, pos, ◌*ℤ◌, List, length, set}
use Rattle.std.proofs.Math.Nat.{mul-dvd-mul_left, dvd_of_mul-dvd-mul_left, one-dvd, eq-one_of_dvd-one}
use Rattle.std.proofs.lemmas.Bool.{cases_eq}
use Rattle.std.proofs.lemmas.Int.{unsigned_abs-mul}
use Rattle.std.proofs.lemmas.List.{get_or-set_same, get_or-set_other, length-set}
use Rattle.std.proofs.lemmas.Nat.Gcd.{dvd_trans, dvd-zero}
use Rattle.std.specs.Int.{IsGcd, ◌∣◌}
use Rattle.std.specs.Int.RustNames.{unsigned_abs}
use Rattle.bz_algebra.specs.Numbers.{IsNarrow}
use Rattle.bz_algebra.proofs.Ring.{one_mul}
use Rattle.bz_num.proofs.Quotients.{nonzero_size}
use Rattle.bz_num.specs.Dense.{entry, AreNarrow, DividesRow, IsDivisorOf, IsDivided}

-- ---- the divisor
-- the divisor of the first i numbers
pub record IsDivisorTo (i : ℕ) (g : ℕ) (row : List ℤ) : Type 0 where
  pub divides : (j : ℕ) → j < i → g ∣ unsigned_abs (entry row j)
  pub greatest : (d : ℕ) → DividesRow d row → d ∣ g

pub divisor-none : (row : List ℤ) → IsDivisorTo 0 0 row
divisor-none row = record { divides = λ j l. absurd (omega arith); greatest = λ d h. dvd-zero d }

pub divisor-more : (i g h : ℕ) (row : List ℤ) → IsDivisorTo i g row → i < length row → IsGcd g (unsigned_abs (entry row i)) h → IsDivisorTo (i + 1) h row
divisor-more i g h row known inside is = record {
  divides = λ j l. elim (cases_eq j i) [
    | inl t ↦ subst (λ (k : ℕ). h ∣ unsigned_abs (entry row k)) (sym t) is.1
    | inr n ↦ dvd_trans h is.0 (known.divides j (omega arith))
  ];
  greatest = λ d all. is.2 d (known.greatest d all) (all i inside);
}

pub divisor-one : (i : ℕ) (row : List ℤ) → IsDivisorTo i 1 row → IsDivisorOf 1 row
divisor-one i row known = record { divides = λ j l. one-dvd (unsigned_abs (entry row j)); greatest = known.greatest }

pub divisor-all : (i g : ℕ) (row : List ℤ) → IsDivisorTo i g row → length row ≤ i → IsDivisorOf g row
divisor-all i g row known l = record { divides = λ j m. known.divides j (omega arith); greatest = known.greatest }

-- ---- the division
-- the first i numbers are divided
pub record IsDividedTo (i : ℕ) (divisor : ℤ) (old new : List ℤ) : Type 0 where
  pub width : length new ≡ length old
  pub done : (j : ℕ) → j < i → entry old j ≡ divisor *ℤ entry new j
  pub left : (j : ℕ) → i ≤ j → entry new j ≡ entry old j
  pub narrow : AreNarrow new

pub divided-none : (divisor : ℤ) (old : List ℤ) → AreNarrow old → IsDividedTo 0 divisor old old
divided-none divisor old h = record { width = refl; done = λ j l. absurd (omega arith); left = λ j l. refl; narrow = h }

pub divided-more : (i : ℕ) (divisor : ℤ) (old new : List ℤ) (x : ℤ) → IsDividedTo i divisor old new → i < length new → entry new i ≡ divisor *ℤ x → IsNarrow x → IsDividedTo (i + 1) divisor old (set new i x)
divided-more i divisor old new x h inside e narrow = record {
  width = length-set new i x ∙ h.width;
  done = λ j l. elim (cases_eq j i) [
    | inl t ↦ subst (λ (k : ℕ). entry old k ≡ divisor *ℤ entry (set new i x) k) (sym t) (sym (h.left i (omega arith)) ∙ e ∙ ap (λ (z : ℤ). divisor *ℤ z) (sym (get_or-set_same new i x (pos 0) inside)))
    | inr n ↦ h.done j (omega arith) ∙ ap (λ (z : ℤ). divisor *ℤ z) (sym (get_or-set_other new i j x (pos 0) n))
  ];
  left = λ j l. get_or-set_other new i j x (pos 0) (λ t. omega arith) ∙ h.left j (omega arith);
  narrow = λ j l. elim (cases_eq j i) [
    | inl t ↦ subst (λ (k : ℕ). IsNarrow (entry (set new i x) k)) (sym t) (subst (λ (z : ℤ). IsNarrow z) (sym (get_or-set_same new i x (pos 0) inside)) narrow)
    | inr n ↦ subst (λ (z : ℤ). IsNarrow z) (sym (get_or-set_other new i j x (pos 0) n)) (h.narrow j (omega (arith, length-set new i x)))
  ];
}

pub divided-all : (i : ℕ) (divisor : ℤ) (old new : List ℤ) → IsDividedTo i divisor old new → length old ≤ i → IsDivided divisor old new
divided-all i divisor old new h l = record { width = h.width; numbers = λ j m. h.done j (omega arith); narrow = h.narrow }

pub divided-by_one : (divisor : ℤ) (row : List ℤ) → divisor ≡ pos 1 → AreNarrow row → IsDivided divisor row row
divided-by_one divisor row e h = record { width = refl; numbers = λ j l. sym (ap (λ (d : ℤ). d *ℤ entry row j) e ∙ one_mul (entry row j)); narrow = h }

-- what divides the row divides the number that is next
pub divides_left : (i : ℕ) (g : ℕ) (divisor : ℤ) (old new : List ℤ) → IsDividedTo i divisor old new → DividesRow g old → i < length new → g ∣ unsigned_abs (entry new i)
divides_left i g divisor old new h all inside = subst (λ (z : ℤ). g ∣ unsigned_abs z) (sym (h.left i (omega arith))) (all i (omega (arith, h.width)))

-- a row divided by its greatest common divisor has no common divisor but 1
pub quotients_primitive : (d : ℤ) (old new : List ℤ) → d ≢ pos 0 → IsDivisorOf (unsigned_abs d) old → IsDivided d old new → (k : ℕ) → DividesRow k new → k ≡ 1
quotients_primitive d old new n g h k all = eq-one_of_dvd-one (dvd_of_mul-dvd-mul_left k (nonzero_size d n) (subst (λ (m : ℕ). (unsigned_abs d * k) ∣ m) (sym (mul_one_right (unsigned_abs d))) (g.greatest (unsigned_abs d * k) each)))
  where
    mul_one_right : (m : ℕ) → m * 1 ≡ m
    mul_one_right m = omega arith

    each : DividesRow (unsigned_abs d * k) old
    each j l = subst (λ (m : ℕ). (unsigned_abs d * k) ∣ m) (sym (ap unsigned_abs (h.numbers j l) ∙ unsigned_abs-mul d (entry new j))) (mul-dvd-mul_left k (unsigned_abs d) (all j (omega (arith, h.width))))
