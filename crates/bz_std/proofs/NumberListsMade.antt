-- Lists of the numbers of a function, one number more.
use Rattle.std.proofs.Common.{◌≡◌, refl, sym, subst, ◌∙◌, inl, inr, ℕ, ◌+◌, ◌<◌, List, [], ◌∷◌, ◌++◌, length, arith, ℤ, pos}
use Rattle.std.proofs.Math.ListN.{get_or-append}
use Rattle.std.proofs.Math.Seq.{get_or-append_seam}
use Rattle.std.proofs.lemmas.Bool.{cases_eq}
use Rattle.std.proofs.lemmas.List.{length-append}
use Rattle.bz_algebra.specs.Numbers.{IsNarrow}
use Rattle.bz_num.specs.Dense.{entry}
use Rattle.bz_std.specs.NumberLists.{HasNumbers}

pub numbers_none : (f : ℕ → ℤ) → HasNumbers 0 f []
numbers_none f = record { width = refl; numbers = λ j l. absurd (omega arith); narrow = λ j l. absurd (omega arith) }

pub numbers_next : (n : ℕ) (f : ℕ → ℤ) (values : List ℤ) (x : ℤ) → x ≡ f n → IsNarrow x → HasNumbers n f values → HasNumbers (n + 1) f (values ++ x ∷ [])
numbers_next n f values x e h k = record {
  width = length-append values (x ∷ []) ∙ omega (arith, k.width);
  numbers = λ j l. elim (cases_eq j n) [
    | inl t ↦ subst (λ (i : ℕ). entry (values ++ x ∷ []) i ≡ f i) (sym t) (subst (λ (i : ℕ). entry (values ++ x ∷ []) i ≡ x) k.width (get_or-append_seam values x [] (pos 0)) ∙ e)
    | inr m ↦ get_or-append values (x ∷ []) (pos 0) j (omega (arith, k.width)) ∙ k.numbers j (omega arith)
  ];
  narrow = λ j l. elim (cases_eq j (length values)) [
    | inl t ↦ subst (λ (i : ℕ). IsNarrow (entry (values ++ x ∷ []) i)) (sym t) (subst (λ (z : ℤ). IsNarrow z) (sym (get_or-append_seam values x [] (pos 0))) h)
    | inr m ↦ let inside : j < length values = omega (arith, length-append values (x ∷ [])) in subst (λ (z : ℤ). IsNarrow z) (sym (get_or-append values (x ∷ []) (pos 0) j inside)) (k.narrow j inside)
  ];
}
