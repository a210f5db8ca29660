-- The numbers of a cut before their division, and the cut that they make.
use Rattle.std.proofs.Common.{◌≡◌, sym, subst, ◌∙◌, inl, inr, ℕ, ◌+◌, ◌<◌, List, [], ◌∷◌, ◌++◌, length, arith, ℤ, pos, ◌<ℤ◌, ◌≤ℤ◌}
use Rattle.std.proofs.Math.ListN.{get_or-append}
use Rattle.std.proofs.Math.Nat.{eq-zero_of_zero-dvd}
use Rattle.std.proofs.Math.Seq.{get_or-append_seam}
use Rattle.std.proofs.lemmas.Bool.{cases_eq}
use Rattle.std.proofs.lemmas.Int.{ints}
use Rattle.std.specs.Int.{◌∣◌}
use Rattle.std.specs.Int.RustNames.{unsigned_abs}
use Rattle.bz_algebra.specs.Numbers.{IsNarrow}
use Rattle.bz_algebra.specs.Sums.{coef, dot}
use Rattle.bz_algebra.proofs.Ring.{by_sign, positive-ne}
use Rattle.bz_num.specs.Dense.{DividesRow, IsDivided, IsDivisorOf, entry}
use Rattle.bz_num.specs.Fold.{IsNarrowSum, pairs_at}
use Rattle.bz_num.specs.Primitive.{DividesAll}
use Rattle.bz_num.proofs.Coefs.{divides-coef}
use Rattle.bz_num.proofs.DenseRows.{quotients_primitive}
use Rattle.bz_num.proofs.Quotients.{zero_from_size}
use Rattle.bz_model.specs.declared.Ineq.{Ineq}
use Rattle.bz_model.specs.declared.Model.{Model}
use Rattle.bz_model.specs.Parting.{inequalities_of, width_of}
use Rattle.bz_cut.specs.declared.Cut.{Cut}
use Rattle.bz_cut.specs.Fits.{FitsCut}
use Rattle.bz_cut.specs.Rows.{master_at, rhs_at}
use Rattle.bz_std.specs.declared.making.MakeStop.{MakeStop}
use Rattle.bz_std.specs.declared.making.MakeStop.TheVariants as stop
use Rattle.bz_std.specs.CutsFrom.{AreEntries, IsCutFrom, IsNoCut}
use Rattle.bz_std.specs.Making.{AreNarrowBelow, AreRawNumbers, HasNarrowCutSums, HasSome, IsCutOfNumbers, StopsCut, StopsSums, bare, master_sum}
use Rattle.bz_std.specs.NumberLists.{HasNumbers}
use Rattle.bz_std.proofs.Entries.{entries_sum}
use Rattle.bz_std.proofs.NumberListsMade.{numbers_next}

-- ---- sums
pub narrow_more : (i : ℕ) (rows : List Ineq) (mu : List (ℕ × ℤ)) → AreNarrowBelow i rows mu → IsNarrowSum (pairs_at mu (λ n. coef (master_at rows n) i)) → AreNarrowBelow (i + 1) rows mu
narrow_more i rows mu h here j l = elim (cases_eq j i) [
  | inl t ↦ subst (λ (k : ℕ). IsNarrowSum (pairs_at mu (λ n. coef (master_at rows n) k))) (sym t) here
  | inr t ↦ h j (omega arith)
]

-- the numbers of a list with one more at its end
entry_kept : (xs : List ℤ) (x : ℤ) (j : ℕ) → j < length xs → entry (xs ++ x ∷ []) j ≡ entry xs j
entry_kept xs x j l = get_or-append xs (x ∷ []) (pos 0) j l

entry_last : (n : ℕ) (xs : List ℤ) (x : ℤ) → length xs ≡ n → entry (xs ++ x ∷ []) n ≡ x
entry_last n xs x e = subst (λ (i : ℕ). entry (xs ++ x ∷ []) i ≡ x) e (get_or-append_seam xs x [] (pos 0))

-- the eta's number and the right side after those of the master's positions
pub raw_from : (width : ℕ) (rows : List Ineq) (mu : List (ℕ × ℤ)) (raw rhs : ℤ) (sums : List ℤ) → HasNumbers width (master_sum mu rows) sums → IsNarrow raw → IsNarrow rhs → dot mu (rhs_at rows) ≡ rhs → AreRawNumbers width rows mu raw ((sums ++ raw ∷ []) ++ rhs ∷ [])
raw_from width rows mu raw rhs sums h narrow side e = record {
  count = two.width ∙ omega arith;
  master = λ i l. entry_kept (sums ++ raw ∷ []) rhs i (omega (arith, one.width)) ∙ entry_kept sums raw i (omega (arith, h.width)) ∙ h.numbers i l;
  eta = entry_kept (sums ++ raw ∷ []) rhs width (omega (arith, one.width)) ∙ entry_last width sums raw h.width;
  rhs = entry_last (width + 1) (sums ++ raw ∷ []) rhs one.width ∙ sym e;
  narrow = two.narrow;
}
  where
    one : HasNumbers (width + 1) (entry (sums ++ raw ∷ [])) (sums ++ raw ∷ [])
    one = numbers_next width (entry (sums ++ raw ∷ [])) sums raw (sym (entry_last width sums raw h.width)) narrow record {
      width = h.width;
      numbers = λ j l. sym (entry_kept sums raw j (omega (arith, h.width)));
      narrow = h.narrow;
    }

    two : HasNumbers (width + 1 + 1) (entry ((sums ++ raw ∷ []) ++ rhs ∷ [])) ((sums ++ raw ∷ []) ++ rhs ∷ [])
    two = numbers_next (width + 1) (entry ((sums ++ raw ∷ []) ++ rhs ∷ [])) (sums ++ raw ∷ []) rhs (sym (entry_last (width + 1) (sums ++ raw ∷ []) rhs one.width)) side record {
      width = one.width;
      numbers = λ j l. sym (entry_kept (sums ++ raw ∷ []) rhs j (omega (arith, one.width)));
      narrow = one.narrow;
    }

-- ---- division
-- the greatest common divisor of numbers that aren't all 0
pub some_divisor : (g : ℤ) (numbers : List ℤ) → (pos 0) ≤ℤ g → IsDivisorOf (unsigned_abs g) numbers → HasSome numbers → (pos 0) <ℤ g
some_divisor g numbers h d some = by_sign g
    (λ k. absurd (omega (arith, ints)))
    (λ e. absurd (some (λ j l. zero_from_size (entry numbers j) (eq-zero_of_zero-dvd (subst (λ (k : ℤ). unsigned_abs k ∣ unsigned_abs (entry numbers j)) e (d.divides j l))))))
    (λ k. k)

pub divided_numbers : (width : ℕ) (g : ℤ) (old new : List ℤ) (cut : Cut) → length old ≡ width + 2 → (pos 0) <ℤ g → IsDivisorOf (unsigned_abs g) old → IsDivided g old new → AreEntries width (entry new) cut.alpha → cut.gcd ≡ g → cut.p0 ≡ entry new width → cut.beta ≡ entry new (width + 1) → IsCutOfNumbers width old cut
divided_numbers width g old new cut count some d h alpha same p0 beta = record {
  gcd = rw same some;
  sparse = alpha.sparse;
  alpha = alpha.below;
  master = λ i l. rw (same, alpha.numbers i l) (h.numbers i (omega (arith, count)));
  eta = rw (same, p0) (h.numbers width (omega (arith, count)));
  rhs = rw (same, beta) (h.numbers (width + 1) (omega (arith, count)));
  lowest = λ k all at_eta side. quotients_primitive g old new (positive-ne g some) d h k (each k all (rw p0 at at_eta) (rw beta at side));
}
  where
    each : (k : ℕ) → DividesAll k cut.alpha → k ∣ unsigned_abs (entry new width) → k ∣ unsigned_abs (entry new (width + 1)) → DividesRow k new
    each k all at_eta side j l = elim (cases_eq j width) [
      | inl t ↦ subst (λ (i : ℕ). k ∣ unsigned_abs (entry new i)) (sym t) at_eta
      | inr n ↦ elim (cases_eq j (width + 1)) [
        | inl t ↦ subst (λ (i : ℕ). k ∣ unsigned_abs (entry new i)) (sym t) side
        | inr m ↦ subst (λ (z : ℤ). k ∣ unsigned_abs z) (alpha.numbers j (omega (arith, h.width, count))) (divides-coef 0 k j cut.alpha alpha.sparse all)
      ]
    ]

-- ---- the cut
module _ (m : Model) (part : List ℕ) (b : ℕ) (y : ℕ → ℤ) (mu : List (ℕ × ℤ)) (e : AreEntries (length (inequalities_of m part b)) y mu) where
  -- not all numbers are 0
  pub some_number : (raw : ℤ) (numbers : List ℤ) → AreRawNumbers (width_of part 0) (inequalities_of m part b) mu raw numbers → (IsNoCut m part b y raw → ⊥) → HasSome numbers
  some_number raw numbers h n zeros = n record {
    master = λ i l. sym (entries_sum _ y (λ k. coef (master_at (inequalities_of m part b) k) i) mu e) ∙ sym (h.master i l) ∙ zeros i (omega (arith, h.count));
    eta = sym h.eta ∙ zeros (width_of part 0) (omega (arith, h.count));
    rhs = sym (entries_sum _ y (rhs_at (inequalities_of m part b)) mu e) ∙ sym h.rhs ∙ zeros (width_of part 0 + 1) (omega (arith, h.count));
  }

  pub cut_is : (raw : ℤ) (numbers : List ℤ) (cut : Cut) → AreRawNumbers (width_of part 0) (inequalities_of m part b) mu raw numbers → cut.block ≡ b → cut.mu ≡ mu → IsCutOfNumbers (width_of part 0) numbers cut → IsCutFrom m part b y raw cut
  cut_is raw numbers cut h block same c = record {
    block = block;
    mu = rw same e;
    gcd = c.gcd;
    sparse = c.sparse;
    alpha = c.alpha;
    master = λ i l. rw same (sym (h.master i l) ∙ c.master i l);
    eta = sym h.eta ∙ c.eta;
    rhs = rw same (sym h.rhs ∙ c.rhs);
    lowest = c.lowest;
  }

  pub cut_stops : (s : MakeStop) → StopsSums (width_of part 0) (inequalities_of m part b) mu s → StopsCut m part b y s
  cut_stops stop.OutOfMemory h = tt
  cut_stops stop.Wide h = record { mu = mu; entries = e; wide = h }

-- the sums of a cut that fits
pub fits_narrow : (m : Model) (part : List ℕ) (cut : Cut) → FitsCut m part cut → HasNarrowCutSums m part cut.block cut.mu
fits_narrow m part cut h = record { master = λ i l. (h.master i l).sum; rhs = h.rhs.sum }

-- a wide sum keeps the bare cut from fitting
pub bare_is_wide : (m : Model) (part : List ℕ) (b : ℕ) (mu : List (ℕ × ℤ)) (raw : ℤ) (h : IsNarrow raw) → (HasNarrowCutSums m part b mu → ⊥) → FitsCut m part (bare b mu raw h) → ⊥
bare_is_wide m part b mu raw h n f = n (fits_narrow m part (bare b mu raw h) f)
