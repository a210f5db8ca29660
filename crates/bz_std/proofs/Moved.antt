-- Coefficients of terms whose indexes are moved, and of a row of ones.
use Rattle.std.specs.Prelude.{ℕ, zero, suc, ◌+◌, ◌<◌, ◌≤◌, ◌≡◌, ℤ, pos, negsuc, ◌+ℤ◌, List, [], ◌∷◌}
use Rattle.std.proofs.Common.{refl, ap, sym, ◌∙◌, arith, inl, inr}
use Rattle.std.proofs.lemmas.Bool.{cases_eq}
use Rattle.bz_algebra.specs.Sums.{coef}
use Rattle.bz_algebra.proofs.Ring.{add_zero}
use Rattle.bz_algebra.proofs.SumLemmas.{coef_append, coef_cons, single, single_at, single_off}
use Rattle.bz_num.specs.Row.{entry_at}
use Rattle.bz_std.specs.Tasks.{moved, ones}

single_zero : (k j : ℕ) → single k (pos 0) j ≡ pos 0
single_zero k j = elim (cases_eq k j) [
  | inl e ↦ ap (single k (pos 0)) (sym e) ∙ single_at k (pos 0)
  | inr d ↦ single_off k (pos 0) j d
]

coef_entry : (k : ℕ) (z : ℤ) (j : ℕ) → coef (entry_at k z) j ≡ single k z j
coef_entry k (pos zero) j = sym (single_zero k j)
coef_entry k (pos (suc n)) j = coef_cons (k, pos (suc n)) [] j ∙ add_zero (single k (pos (suc n)) j)
coef_entry k (negsuc n) j = coef_cons (k, negsuc n) [] j ∙ add_zero (single k (negsuc n) j)

coef_moved_step : (n : ℕ) (e : ℕ × ℤ) (es : List (ℕ × ℤ)) (j : ℕ) → coef (moved n (e ∷ es)) j ≡ single (n + e.0) e.1 j +ℤ coef (moved n es) j
coef_moved_step n e es j = coef_append (entry_at (n + e.0) e.1) (moved n es) j ∙ ap (λ (t : ℤ). t +ℤ coef (moved n es) j) (coef_entry (n + e.0) e.1 j)

-- below n nothing stands
pub coef_moved_before : (n : ℕ) (es : List (ℕ × ℤ)) (j : ℕ) → j < n → coef (moved n es) j ≡ pos 0
coef_moved_before n [] j l = refl
coef_moved_before n (e ∷ es) j l = coef_moved_step n e es j ∙ rw (single_off (n + e.0) e.1 j (λ t. omega arith), coef_moved_before n es j l) refl

single_moved : (n k : ℕ) (z : ℤ) (j : ℕ) → single (n + k) z (n + j) ≡ single k z j
single_moved n k z j = elim (cases_eq k j) [
  | inl e ↦ ap (λ (t : ℕ). single (n + k) z (n + t)) (sym e) ∙ single_at (n + k) z ∙ sym (ap (single k z) (sym e) ∙ single_at k z)
  | inr d ↦ single_off (n + k) z (n + j) (λ t. d (omega arith)) ∙ sym (single_off k z j d)
]

-- and from n on what stood from 0 on
pub coef_moved : (n : ℕ) (es : List (ℕ × ℤ)) (j : ℕ) → coef (moved n es) (n + j) ≡ coef es j
coef_moved n [] j = refl
coef_moved n (e ∷ es) j = coef_moved_step n e es (n + j) ∙ rw (single_moved n e.0 e.1 j, coef_moved n es j, coef_cons e es j) refl

pub coef_ones_before : (n k j : ℕ) → j < n → coef (ones n k) j ≡ pos 0
coef_ones_before n zero j l = refl
coef_ones_before n (suc k) j l = coef_cons (n, pos 1) (ones (suc n) k) j ∙ rw (single_off n (pos 1) j (λ t. omega arith), coef_ones_before (suc n) k j (omega arith)) refl

pub coef_ones : (n k j : ℕ) → n ≤ j → j < n + k → coef (ones n k) j ≡ pos 1
coef_ones n zero j l b = absurd (omega arith)
coef_ones n (suc k) j l b = coef_cons (n, pos 1) (ones (suc n) k) j ∙ elim (cases_eq n j) [
  | inl e ↦ rw (← e, single_at n (pos 1), coef_ones_before (suc n) k n (omega arith)) refl
  | inr d ↦ rw (single_off n (pos 1) j d, coef_ones (suc n) k j (omega arith) (omega arith)) refl
]
