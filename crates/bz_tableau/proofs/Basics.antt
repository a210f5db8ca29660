-- Each combination of a system's rows is made of the rows of a basis: it takes each as often as its entry in the basic column says. So the point of a basis meets each combination.
use Rattle.std.specs.Prelude.{ℕ, ◌<◌, ◌≤◌, ◌≡◌, ℤ, pos, ◌-ℤ◌, ◌*ℤ◌}
use Rattle.std.proofs.Common.{ap, sym, ◌∙◌, arith}
use Rattle.std.proofs.lemmas.Int.{ints}
use Rattle.bz_algebra.specs.Sums.{upto}
use Rattle.bz_algebra.specs.Tableaus.{Equations, side, IsCombination, IsTableau}
use Rattle.bz_algebra.proofs.Combinations.{combination_upto, combination_sub}
use Rattle.bz_algebra.proofs.NothingElse.{nothing_else}
use Rattle.bz_algebra.proofs.Ring.{*ℤ_assoc, mul_zero, one_mul}
use Rattle.bz_algebra.proofs.SumLemmas.{upto_only}

no_rest : (a b : ℤ) → a ≡ b → a -ℤ (pos 1 *ℤ b) ≡ pos 0
no_rest a b e = omega (arith, ints, one_mul b)

from_no_rest : (a b : ℤ) → a -ℤ (pos 1 *ℤ b) ≡ pos 0 → a ≡ b
from_no_rest a b e = omega (arith, ints, one_mul b)

-- den is so many times each basic entry: in each column den v is the sum of the basis's rows
pub made_of_rows : (s : Equations) (basis : ℕ → ℕ) (w : ℕ → ℕ → ℤ) (den : ℤ) (times : ℕ → ℤ) (v : ℕ → ℤ) → IsTableau s basis w → ((k : ℕ) → k < s.rows → times k *ℤ w k (basis k) ≡ den) → IsCombination s v
    → (j : ℕ) → j ≤ side s → den *ℤ v j ≡ upto s.rows (λ k. (v (basis k) *ℤ times k) *ℤ w k j)
made_of_rows s basis w den times v t h c j l = from_no_rest (den *ℤ v j) (total j) (nothing_else s basis w t (λ i. (den *ℤ v i) -ℤ (pos 1 *ℤ total i)) rest basic j l)
  where
    total : ℕ → ℤ
    total i = upto s.rows (λ k. (v (basis k) *ℤ times k) *ℤ w k i)

    rest : IsCombination s (λ i. (den *ℤ v i) -ℤ (pos 1 *ℤ total i))
    rest = combination_sub s den (pos 1) v total c (combination_upto s s.rows (λ k. v (basis k) *ℤ times k) w (λ i b. (t.rows i b).combination))

    basic : (i : ℕ) → i < s.rows → (den *ℤ v (basis i)) -ℤ (pos 1 *ℤ total (basis i)) ≡ pos 0
    basic i b = no_rest (den *ℤ v (basis i)) (total (basis i)) (sym (
        upto_only s.rows i (λ k. (v (basis k) *ℤ times k) *ℤ w k (basis i)) b
        (λ k m n. ap (λ (z : ℤ). (v (basis k) *ℤ times k) *ℤ z) ((t.rows k m).cleared i b (λ e. n (sym e))) ∙ mul_zero (v (basis k) *ℤ times k))
        ∙ *ℤ_assoc (v (basis i)) (times i) (w i (basis i))
        ∙ ap (λ (z : ℤ). v (basis i) *ℤ z) (h i b)
        ∙ commuted (v (basis i)) den))
      where
        commuted : (a b : ℤ) → a *ℤ b ≡ b *ℤ a
        commuted a b = omega (arith, ints)
