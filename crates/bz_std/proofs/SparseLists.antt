-- Sparse lists with the same number at each index are the same.
use Rattle.std.specs.Prelude.{ℕ, suc, ◌<◌, ◌≡◌, nat_lt, ℤ, pos, List, [], ◌∷◌}
use Rattle.std.proofs.Common.{refl, ap, sym, subst, ◌∙◌, arith, inl, inr}
use Rattle.std.proofs.lemmas.Bool.{cases_Bool, cases_eq, ltb-true, ltb-false}
use Rattle.std.proofs.lemmas.Int.{ints}
use Rattle.bz_algebra.specs.Sums.{coef, AllBelow}
use Rattle.bz_algebra.proofs.SumLemmas.{coef_beyond}
use Rattle.bz_num.specs.Row.{IsSparse, IsSparseFrom}
use Rattle.bz_num.proofs.Coefs.{coef-first, coef-rest}
use Rattle.bz_num.proofs.Rows.{coef-before}
use Rattle.bz_std.specs.CutsFrom.{AreEntries}

some_first : (low : ℕ) (e : ℕ × ℤ) (es : List (ℕ × ℤ)) → IsSparseFrom low (e ∷ es) → coef (e ∷ es) e.0 ≡ pos 0 → ⊥
some_first low e es h z = omega (arith, ints, h.0.some, sym (coef-first low e es h) ∙ z)

from_own : (low : ℕ) (e : ℕ × ℤ) (es : List (ℕ × ℤ)) → IsSparseFrom low (e ∷ es) → IsSparseFrom e.0 (e ∷ es)
from_own low e es h = (record { column = omega arith; some = h.0.some; narrow = h.0.narrow }, h.1)

-- the one list doesn't begin before the other
not_before : (low least : ℕ) (e g : ℕ × ℤ) (es gs : List (ℕ × ℤ)) → IsSparseFrom low (e ∷ es) → IsSparseFrom least (g ∷ gs) → coef (e ∷ es) e.0 ≡ coef (g ∷ gs) e.0 → e.0 < g.0 → ⊥
not_before low least e g es gs h k same l = some_first low e es h (same ∙ coef-before g.0 e.0 (g ∷ gs) (from_own least g gs k) l)

same_index : (low : ℕ) (e g : ℕ × ℤ) (es gs : List (ℕ × ℤ)) → IsSparseFrom low (e ∷ es) → IsSparseFrom low (g ∷ gs) → ((j : ℕ) → coef (e ∷ es) j ≡ coef (g ∷ gs) j) → e.0 ≡ g.0
same_index low e g es gs h k same = elim (cases_Bool (nat_lt e.0 g.0)) [
  | inl t ↦ absurd (not_before low low e g es gs h k (same e.0) (ltb-true e.0 g.0 t))
  | inr t ↦ elim (cases_Bool (nat_lt g.0 e.0)) [
    | inl u ↦ absurd (not_before low low g e gs es k h (sym (same g.0)) (ltb-true g.0 e.0 u))
    | inr u ↦ omega (arith, ltb-false e.0 g.0 t, ltb-false g.0 e.0 u)
  ]
]

-- behind the first entries
rest_same : (low : ℕ) (e g : ℕ × ℤ) (es gs : List (ℕ × ℤ)) → IsSparseFrom low (e ∷ es) → IsSparseFrom low (g ∷ gs) → e.0 ≡ g.0 → ((j : ℕ) → coef (e ∷ es) j ≡ coef (g ∷ gs) j) → (j : ℕ) → coef es j ≡ coef gs j
rest_same low e g es gs h k f same j = elim (cases_eq e.0 j) [
  | inl at ↦ coef-before (suc e.0) j es h.1 (omega (arith, at)) ∙ sym (coef-before (suc g.0) j gs k.1 (omega (arith, at, f)))
  | inr off ↦ sym (coef-rest j e es off) ∙ same j ∙ coef-rest j g gs (λ t. off (f ∙ t))
]

same_from : (low : ℕ) (es gs : List (ℕ × ℤ)) → IsSparseFrom low es → IsSparseFrom low gs → ((j : ℕ) → coef es j ≡ coef gs j) → es ≡ gs
same_from low [] [] h k same = refl
same_from low [] (g ∷ gs) h k same = absurd (some_first low g gs k (sym (same g.0)))
same_from low (e ∷ es) [] h k same = absurd (some_first low e es h (same e.0))
same_from low (e ∷ es) (g ∷ gs) h k same =
    let f : e.0 ≡ g.0 = same_index low e g es gs h k same in
    let number : e.1 ≡ g.1 = sym (coef-first low e es h) ∙ same e.0 ∙ ap (coef (g ∷ gs)) f ∙ coef-first low g gs k in
    let sparse : IsSparseFrom (suc e.0) gs = subst (λ (n : ℕ). IsSparseFrom (suc n) gs) (sym f) k.1 in
    let rest : es ≡ gs = same_from (suc e.0) es gs h.1 sparse (rest_same low e g es gs h k f same) in
    λ i. (f i, number i) ∷ rest i

-- the indexes below n tell all
pub sparse_same : (n : ℕ) (es gs : List (ℕ × ℤ)) → IsSparse es → IsSparse gs → AllBelow n es → AllBelow n gs → ((j : ℕ) → j < n → coef es j ≡ coef gs j) → es ≡ gs
sparse_same n es gs h k b c same = same_from 0 es gs h k (λ j. elim (cases_Bool (nat_lt j n)) [
  | inl t ↦ same j (ltb-true j n t)
  | inr t ↦ coef_beyond n es j b (ltb-false j n t) ∙ sym (coef_beyond n gs j c (ltb-false j n t))
])

-- so do the lists of equal numbers
pub entries_same : (n : ℕ) (y z : ℕ → ℤ) (es gs : List (ℕ × ℤ)) → AreEntries n y es → AreEntries n z gs → ((i : ℕ) → i < n → y i ≡ z i) → es ≡ gs
entries_same n y z es gs h k same = sparse_same n es gs h.sparse k.sparse h.below k.below (λ j l. h.numbers j l ∙ same j l ∙ sym (k.numbers j l))
