-- Sparse lists of the numbers of a vector.
use Rattle.std.specs.Prelude.{ℕ, zero, suc, ◌<◌, ◌≤◌, ◌≡◌, ℤ, pos, ◌*ℤ◌, ◌≤ℤ◌, List, [], ◌∷◌}
use Rattle.std.proofs.Common.{ap, sym, ◌∙◌, arith}
use Rattle.std.proofs.lemmas.Int.{ints}
use Rattle.bz_algebra.specs.Sums.{dot, coef, upto, AllBelow}
use Rattle.bz_algebra.proofs.SumLemmas.{dot_all, upto_same}
use Rattle.bz_num.specs.Row.{IsSparseFrom}
use Rattle.bz_num.proofs.Coefs.{coef-first, coef-rest}
use Rattle.bz_cut.specs.Rows.{AreMultipliers}
use Rattle.bz_std.specs.CutsFrom.{AreEntries}

-- a sum over the list is the sum over all numbers
pub entries_sum : (n : ℕ) (y f : ℕ → ℤ) (list : List (ℕ × ℤ)) → AreEntries n y list → dot list f ≡ upto n (λ i. y i *ℤ f i)
entries_sum n y f list e = dot_all n list f e.below ∙ upto_same n _ _ (λ i b. ap (λ (t : ℤ). t *ℤ f i) (e.numbers i b))

module _ (n : ℕ) (y : ℕ → ℤ) (h : (i : ℕ) → i < n → (pos 0) ≤ℤ (y i)) where
  positive_from : (low : ℕ) (list : List (ℕ × ℤ)) → IsSparseFrom low list → AllBelow n list → ((i : ℕ) → low ≤ i → i < n → coef list i ≡ y i) → AreMultipliers n list
  positive_from low [] s b e = tt
  positive_from low (entry ∷ list) s b e =
      let first : low ≤ entry.0 = s.0.column in
      let here : entry.1 ≡ y entry.0 = sym (coef-first low entry list s) ∙ e entry.0 first b.0 in
      ((b.0, omega (arith, ints, here, h entry.0 b.0, s.0.some)), positive_from (suc entry.0) list s.1 b.1 (λ i l k. sym (coef-rest i entry list (λ t. omega arith)) ∙ e i (omega arith) k))

  -- the numbers of multipliers that aren't negative are positive
  pub entries_are_multipliers : (list : List (ℕ × ℤ)) → AreEntries n y list → AreMultipliers n list
  entries_are_multipliers list e = positive_from zero list e.sparse e.below (λ i l b. e.numbers i b)
