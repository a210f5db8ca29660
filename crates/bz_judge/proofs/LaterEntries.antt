-- The entries of a sparse row from a position on.
use Rattle.std.proofs.Common.{◌≡◌, refl, sym, ◌∙◌, ap, ℕ, suc, ◌+◌, ◌≤◌, cond, nat_lt, List, [], ◌∷◌, arith, ℤ, pos, inl, inr}
use Rattle.std.proofs.lemmas.Int.{ints}
use Rattle.std.proofs.lemmas.Bool.{cases_Bool, cases_eq, lt-ltb, le-ltb}
use borrow.Author.Tests.{ltb-true, ltb-false}
use Rattle.bz_algebra.specs.Sums.{AllBelow, coef}
use Rattle.bz_num.specs.Row.{IsSparseFrom}
use Rattle.bz_num.proofs.Coefs.{coef-first, coef-rest}
use Rattle.bz_num.proofs.Rows.{coef-before}

-- the entries from a position on
abbrev pub later : ℕ → List (ℕ × ℤ) → List (ℕ × ℤ)
later i [] = []
later i (e ∷ es) = cond (nat_lt e.0 i) (later i es) (e ∷ later i es)

-- all entries are from a place before them on
pub later-all : (low i : ℕ) (es : List (ℕ × ℤ)) → IsSparseFrom low es → i ≤ low → later i es ≡ es
later-all low i [] h l = refl
later-all low i (e ∷ es) h l =
    rw (le-ltb e.0 i (omega (arith, h.0.column))) (ap (λ (xs : List (ℕ × ℤ)). e ∷ xs) (later-all (suc e.0) i es h.1 (omega (arith, h.0.column))))

-- a position without a number has no entry
pub later-none : (low i : ℕ) (es : List (ℕ × ℤ)) → IsSparseFrom low es → coef es i ≡ pos 0 → later i es ≡ later (i + 1) es
later-none low i [] h z = refl
later-none low i (e ∷ es) h z = elim (cases_eq e.0 i) [
  | inl same ↦ absurd (let here : e.1 ≡ pos 0 = sym (coef-first low e es h) ∙ ap (coef (e ∷ es)) same ∙ z in omega (arith, ints, h.0.some))
  | inr other ↦
      let rest : later i es ≡ later (i + 1) es = later-none (suc e.0) i es h.1 (sym (coef-rest i e es other) ∙ z) in
      elim (cases_Bool (nat_lt e.0 i)) [
        | inl t ↦ rw (t, lt-ltb e.0 (i + 1) (omega (arith, ltb-true e.0 i t))) rest
        | inr t ↦ rw (t, le-ltb e.0 (i + 1) (omega (arith, ltb-false e.0 i t))) (ap (λ (xs : List (ℕ × ℤ)). e ∷ xs) rest)
      ]
]

-- the entry of a position with a number comes first
pub later-some : (low i : ℕ) (es : List (ℕ × ℤ)) (z : ℤ) → IsSparseFrom low es → coef es i ≡ z → (z ≡ pos 0 → ⊥) → later i es ≡ (i, z) ∷ later (i + 1) es
later-some low i [] z h e n = absurd (n (sym e))
later-some low i (e ∷ es) z h c n = elim (cases_eq e.0 i) [
  | inl same ↦
      let number : e.1 ≡ z = sym (coef-first low e es h) ∙ ap (coef (e ∷ es)) same ∙ c in
      let all : later i es ≡ es = later-all (suc e.0) i es h.1 (omega arith) in
      let rest : later (i + 1) es ≡ es = later-all (suc e.0) (i + 1) es h.1 (omega arith) in
      rw (le-ltb e.0 i (omega arith), lt-ltb e.0 (i + 1) (omega arith), all, rest) (λ k. (same k, number k) ∷ es)
  | inr other ↦
      let rest : later i es ≡ (i, z) ∷ later (i + 1) es = later-some (suc e.0) i es z h.1 (sym (coef-rest i e es other) ∙ c) n in
      elim (cases_Bool (nat_lt e.0 i)) [
        | inl t ↦ rw (t, lt-ltb e.0 (i + 1) (omega (arith, ltb-true e.0 i t))) rest
        | inr t ↦ absurd (let after : i ≤ e.0 = ltb-false e.0 i t in
            let none : coef es i ≡ pos 0 = coef-before (suc e.0) i es h.1 (omega arith) in
            n (sym c ∙ coef-rest i e es other ∙ none))
      ]
]

-- no entry is from the end on
pub later-end : (n i : ℕ) (es : List (ℕ × ℤ)) → AllBelow n es → n ≤ i → later i es ≡ []
later-end n i [] h l = refl
later-end n i (e ∷ es) h l = rw (lt-ltb e.0 i (omega (arith, h.0))) (later-end n i es h.1 l)
