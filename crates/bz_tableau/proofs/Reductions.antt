-- Rows divided by their greatest common divisor, number by number.
use Rattle.std.proofs.Common.{◌≡◌, ap, sym, subst, ◌∙◌, ℕ, ◌<◌, arith, ℤ, pos, ◌*ℤ◌, ◌<ℤ◌, ◌≤ℤ◌, List, [], ◌∷◌}
use Rattle.std.proofs.lemmas.Int.{ints}
use Rattle.std.proofs.lemmas.Nat.Gcd.{dvd-zero}
use Rattle.std.specs.Int.{◌∣◌}
use Rattle.std.specs.Int.RustNames.{unsigned_abs}
use Rattle.bz_algebra.specs.Sums.{AllBelow, coef}
use Rattle.bz_algebra.proofs.Bounded.{by_lt}
use Rattle.bz_algebra.proofs.Ring.{mul_zero, zero_mul, cancel_lt_left, by_sign, mul-ne, positive-ne}
use Rattle.bz_algebra.proofs.SumLemmas.{coef_beyond}
use Rattle.bz_num.specs.Primitive.{IsRowGcd, times_entries}
use Rattle.bz_num.specs.Row.{IsSparse}
use Rattle.bz_num.proofs.Coefs.{coef-times_entries, one-from_row_gcd}
use Rattle.bz_num.proofs.Reduces.{sparse-divided}
use Rattle.bz_tableau.specs.Dense.{DividesRow, IsReduced}
use Rattle.bz_tableau.specs.Sparse.{spread}
use Rattle.bz_tableau.proofs.SparseRows.{spread_entry, spread_narrow, spread_width}

-- ---- the reduced row
-- a divisor of the same sign makes a positive number
same_signs : (d x z : ℤ) → z ≡ d *ℤ x → (pos 0) <ℤ d → (pos 0) <ℤ z → (pos 0) <ℤ x
same_signs d x z e h p = cancel_lt_left d (pos 0) x (omega (arith, ints)) (omega (arith, ints, mul_zero d))

below_times : (n : ℕ) (g : ℤ) (es : List (ℕ × ℤ)) → AllBelow n (times_entries g es) → AllBelow n es
below_times n g [] h = tt
below_times n g (e ∷ es) h = (h.0, below_times n g es h.1)

-- the columns stay
pub divided_below : (n : ℕ) (g : ℤ) (old new : List (ℕ × ℤ)) → old ≡ times_entries g new → AllBelow n old → AllBelow n new
divided_below n g old new e h = below_times n g new (subst (λ (es : List (ℕ × ℤ)). AllBelow n es) e h)

module _ (d : ℤ) (old new : List (ℕ × ℤ)) (side : ℤ) (width own : ℕ) (sign : (pos 0) ≤ℤ d) (numbers : old ≡ times_entries d new) (none : pos 0 ≡ d *ℤ side) (reduced : (pos 0) <ℤ d → IsRowGcd 1 new side) (sparse : IsSparse old) (below : AllBelow width old) (inside : own < width) (positive : (pos 0) <ℤ (coef old own)) where
  number_is : (j : ℕ) → coef old j ≡ d *ℤ coef new j
  number_is j = ap (λ (es : List (ℕ × ℤ)). coef es j) numbers ∙ coef-times_entries d new j

  some : (pos 0) <ℤ d
  some = by_sign d (λ k. absurd (omega (arith, ints))) (λ z. absurd (positive-ne (coef old own) positive (number_is own ∙ ap (λ (t : ℤ). t *ℤ coef new own) z ∙ zero_mul (coef new own)))) (λ k. k)

  pub divided_sparse : IsSparse new
  divided_sparse = sparse-divided d old new some sparse numbers

  side_zero : side ≡ pos 0
  side_zero = by_sign side (λ k. absurd (mul-ne d side (positive-ne d some) (λ z. omega (arith, ints)) (sym none))) (λ z. z) (λ k. absurd (mul-ne d side (positive-ne d some) (λ z. omega (arith, ints)) (sym none)))

  divides : (k : ℕ) → DividesRow k (spread width new) → (j : ℕ) → k ∣ unsigned_abs (coef new j)
  divides k h j = by_lt j width
      (λ l. subst (λ (z : ℤ). k ∣ unsigned_abs z) (spread_entry width new j l) (h j (omega (arith, spread_width width new))))
      (λ l. subst (λ (z : ℤ). k ∣ unsigned_abs z) (sym (coef_beyond width new j (divided_below width d old new numbers below) l)) (dvd-zero k))

  pub reduced_spread : IsReduced own (spread width old) (spread width new)
  reduced_spread = record {
    times = d;
    times_nonzero = positive-ne d some;
    divided = record {
      width = spread_width width new ∙ sym (spread_width width old);
      numbers = λ j l. let b : j < width = omega (arith, spread_width width old) in spread_entry width old j b ∙ number_is j ∙ ap (λ (z : ℤ). d *ℤ z) (sym (spread_entry width new j b));
      narrow = spread_narrow width new divided_sparse;
    };
    primitive = λ k h. one-from_row_gcd new side k divided_sparse (reduced some) (divides k h) (subst (λ (z : ℤ). k ∣ unsigned_abs z) (sym side_zero) (dvd-zero k));
    positive = subst (λ (z : ℤ). (pos 0) <ℤ z) (sym (spread_entry width new own inside)) (same_signs d (coef new own) (coef old own) (number_is own) some positive);
  }
