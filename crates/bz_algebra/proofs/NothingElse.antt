-- A combination that is 0 in the columns of a basis is 0 everywhere.
use Rattle.std.specs.Prelude.{ℕ, suc, ◌+◌, ◌<◌, ◌≤◌, ◌≡◌, ◌≢◌, ℤ, pos, ◌*ℤ◌}
use Rattle.std.proofs.Common.{ap, sym, subst, ◌∙◌, arith}
use Rattle.std.proofs.Math.IntN.{*ℤ_comm}
use Rattle.bz_algebra.specs.Sums.{upto}
use Rattle.bz_algebra.specs.Tableaus.{Equations, side, IsCombination, IsTableau}
use Rattle.bz_algebra.proofs.Bounded.{below_suc, with_last, with_last_at, with_last_before}
use Rattle.bz_algebra.proofs.Combinations.{combination_upto, without_multipliers}
use Rattle.bz_algebra.proofs.Dependence.{Dependence, dependent}
use Rattle.bz_algebra.proofs.Ring.{mul_zero, zero_mul, other_zero, positive-ne}
use Rattle.bz_algebra.proofs.SumLemmas.{upto_only}

-- the multipliers of rows and combination depend on each other: what they give in the basis's columns leaves the combination alone
module _ (s : Equations) (basis : ℕ → ℕ) (w : ℕ → ℕ → ℤ) (t : IsTableau s basis w) (v : ℕ → ℤ) (c : IsCombination s v) (z : (k : ℕ) → k < s.rows → v (basis k) ≡ pos 0) where
  abbrev all : ℕ → ℕ → ℤ
  all = with_last s.rows w v

  all_rows : (i : ℕ) → i < suc s.rows → IsCombination s (all i)
  all_rows = below_suc s.rows (λ i. IsCombination s (all i))
      (λ i b. subst (IsCombination s) (sym (with_last_before s.rows w v i b)) ((t.rows i b).combination))
      (subst (IsCombination s) (sym (with_last_at s.rows w v)) c)

  -- in the column of place k the other vectors are 0
  others : (k : ℕ) → k < s.rows → (i : ℕ) → i < suc s.rows → i ≢ k → all i (basis k) ≡ pos 0
  others k b = below_suc s.rows (λ i. i ≢ k → all i (basis k) ≡ pos 0)
      (λ i l n. ap (λ (u : ℕ → ℤ). u (basis k)) (with_last_before s.rows w v i l) ∙ (t.rows i l).cleared k b (λ e. n (sym e)))
      (λ n. ap (λ (u : ℕ → ℤ). u (basis k)) (with_last_at s.rows w v) ∙ z k b)

  module _ (d : Dependence s.rows (λ i k. all i (s.slack + k))) where
    abbrev total : ℕ → ℤ
    total j = upto (suc s.rows) (λ i. d.times i *ℤ all i j)

    nothing : (j : ℕ) → j ≤ side s → total j ≡ pos 0
    nothing = without_multipliers s total (combination_upto s (suc s.rows) d.times all all_rows) d.vanishes

    -- in the column of place k there is only row k
    no_row : (k : ℕ) → k < s.rows → d.times k ≡ pos 0
    no_row k b = other_zero (w k (basis k)) (d.times k) (positive-ne (w k (basis k)) ((t.rows k b).positive))
        (*ℤ_comm (w k (basis k)) (d.times k) ∙ ap (λ (u : ℕ → ℤ). d.times k *ℤ u (basis k)) (sym (with_last_before s.rows w v k b))
        ∙ sym (upto_only (suc s.rows) k (λ i. d.times i *ℤ all i (basis k)) (omega arith) (λ i l n. ap (λ (u : ℤ). d.times i *ℤ u) (others k b i l n) ∙ mul_zero (d.times i)))
        ∙ nothing (basis k) (omega (arith, t.columns.in_range k b)))

    -- so there is only v
    only_v : (j : ℕ) → total j ≡ d.times s.rows *ℤ v j
    only_v j =
        upto_only (suc s.rows) s.rows (λ i. d.times i *ℤ all i j) (omega arith) (λ i l n. ap (λ (u : ℤ). u *ℤ all i j) (no_row i (omega arith)) ∙ zero_mul (all i j))
        ∙ ap (λ (u : ℕ → ℤ). d.times s.rows *ℤ u j) (with_last_at s.rows w v)

    taken : d.times s.rows ≢ pos 0
    taken e = d.nonzero (below_suc s.rows (λ k. d.times k ≡ pos 0) no_row e d.place d.within)

    zeros : (j : ℕ) → j ≤ side s → v j ≡ pos 0
    zeros j b = other_zero (d.times s.rows) (v j) taken (sym (only_v j) ∙ nothing j b)

-- a combination that is 0 in the columns of a basis is 0 in each column and on the right side
pub nothing_else : (s : Equations) (basis : ℕ → ℕ) (w : ℕ → ℕ → ℤ) → IsTableau s basis w → (v : ℕ → ℤ) → IsCombination s v → ((k : ℕ) → k < s.rows → v (basis k) ≡ pos 0) → (j : ℕ) → j ≤ side s → v j ≡ pos 0
nothing_else s basis w t v c z = zeros s basis w t v c z (dependent s.rows _)
