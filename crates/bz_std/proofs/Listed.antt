-- The numbers at indexes that rise, without zeros: a sparse row is the list of its own.
use Rattle.std.proofs.Common.{◌≡◌, refl, sym, ◌∙◌, ap, subst, ℕ, zero, suc, ◌+◌, ◌<◌, ◌≤◌, List, [], ◌∷◌, ◌++◌, arith, ℤ, pos, negsuc, inl, inr, append-nil, append_assoc, add-one}
use Rattle.std.proofs.lemmas.Bool.{cases_eq}
use Rattle.std.specs.Int.RustNames.{unsigned_abs}
use Rattle.bz_algebra.specs.Sums.{AllBelow, coef}
use Rattle.bz_num.specs.Row.{IsEntryFrom, IsSparse, IsSparseFrom, entry_at}
use Rattle.bz_num.proofs.Coefs.{coef-first, coef-rest}
use Rattle.bz_num.proofs.Rows.{coef-before}

-- the numbers of f below n that aren't 0, each with its index
abbrev pub listed : (ℕ → ℤ) → ℕ → List (ℕ × ℤ)
listed f zero = []
listed f (suc n) = listed f n ++ entry_at n (f n)

-- those at n indexes from low on
abbrev listed_from : (ℕ → ℤ) → ℕ → ℕ → List (ℕ × ℤ)
listed_from f low zero = []
listed_from f low (suc n) = entry_at low (f low) ++ listed_from f (suc low) n

at_end : (f : ℕ → ℤ) (low n : ℕ) → listed_from f low n ++ entry_at (low + n) (f (low + n)) ≡ listed_from f low (suc n)
at_end f low zero =
    let same : low + 0 ≡ low = omega arith in
    rw same (sym (append-nil (entry_at low (f low))))
at_end f low (suc n) =
    let same : low + suc n ≡ suc low + n = omega arith in
    rw same (append_assoc (entry_at low (f low)) (listed_from f (suc low) n) (entry_at (suc low + n) (f (suc low + n))) ∙ ap (λ (ys : List (ℕ × ℤ)). entry_at low (f low) ++ ys) (at_end f (suc low) n))

from_start : (f : ℕ → ℤ) (n : ℕ) → listed f n ≡ listed_from f 0 n
from_start f zero = refl
from_start f (suc n) =
    let same : 0 + n ≡ n = omega arith in
    ap (λ (ys : List (ℕ × ℤ)). ys ++ entry_at n (f n)) (from_start f n) ∙ (rw same at (at_end f 0 n))

agree : (f g : ℕ → ℤ) (low n : ℕ) → ((j : ℕ) → low ≤ j → f j ≡ g j) → listed_from f low n ≡ listed_from g low n
agree f g low zero h = refl
agree f g low (suc n) h = rw (h low (omega arith), agree f g (suc low) n (λ j l. h j (omega arith))) refl

entry_some : (j : ℕ) (z : ℤ) → 0 < unsigned_abs z → entry_at j z ≡ (j, z) ∷ []
entry_some j (pos zero) h = absurd (omega arith)
entry_some j (pos (suc k)) h = refl
entry_some j (negsuc k) h = refl

none_from : (low n : ℕ) → listed_from (coef []) low n ≡ []
none_from low zero = refl
none_from low (suc n) = none_from (suc low) n

up_from : (low : ℕ) (e : ℕ × ℤ) (es : List (ℕ × ℤ)) → low < e.0 → IsSparseFrom low (e ∷ es) → IsSparseFrom (suc low) (e ∷ es)
up_from low e es l h = (record { column = omega arith; some = h.0.some; narrow = h.0.narrow }, h.1)

-- the first entry is at low
entry_here : (low n : ℕ) (e : ℕ × ℤ) (es : List (ℕ × ℤ)) → e.0 ≡ low → IsSparseFrom low (e ∷ es) → listed_from (coef es) (suc low) n ≡ es → listed_from (coef (e ∷ es)) low (suc n) ≡ e ∷ es
entry_here low n e es same h rest =
    let at : coef (e ∷ es) low ≡ e.1 = subst (λ (k : ℕ). coef (e ∷ es) k ≡ e.1) same (coef-first low e es h) in
    let later : listed_from (coef (e ∷ es)) (suc low) n ≡ es = agree (coef (e ∷ es)) (coef es) (suc low) n (λ j l. coef-rest j e es (λ k. absurd (omega arith))) ∙ rest in
    rw (at, later, entry_some low e.1 h.0.some) (ap (λ (k : ℕ). (k, e.1) ∷ es) (sym same))

-- it is after low
entry_later : (low n : ℕ) (e : ℕ × ℤ) (es : List (ℕ × ℤ)) → low < e.0 → IsSparseFrom low (e ∷ es) → listed_from (coef (e ∷ es)) (suc low) n ≡ e ∷ es → listed_from (coef (e ∷ es)) low (suc n) ≡ e ∷ es
entry_later low n e es above h rest =
    let none : coef (e ∷ es) low ≡ pos 0 = coef-before (suc low) low (e ∷ es) (up_from low e es above h) (omega arith) in
    rw none rest

listed_from_all : (low n : ℕ) (es : List (ℕ × ℤ)) → IsSparseFrom low es → AllBelow (low + n) es → listed_from (coef es) low n ≡ es
listed_from_all low n [] h b = none_from low n
listed_from_all low zero (e ∷ es) h b =
    let least : low ≤ e.0 = h.0.column in
    let most : e.0 < low + 0 = b.0 in
    absurd (omega arith)
listed_from_all low (suc n) (e ∷ es) h b =
    let least : low ≤ e.0 = h.0.column in
    elim (cases_eq e.0 low) [
      | inl same ↦
          entry_here low n e es same h
          (listed_from_all (suc low) n es (subst (λ (k : ℕ). IsSparseFrom (suc k) es) same h.1) (subst (λ (k : ℕ). AllBelow k es) (omega arith) b.1))
      | inr other ↦
          let above : low < e.0 = omega (arith, other) in
          entry_later low n e es above h
          (listed_from_all (suc low) n (e ∷ es) (up_from low e es above h) (subst (λ (k : ℕ). AllBelow k (e ∷ es)) (omega arith) b))
    ]

pub listed_next : (f : ℕ → ℤ) (n : ℕ) → listed f (n + 1) ≡ listed f n ++ entry_at n (f n)
listed_next f n = rw add-one refl

-- a sparse row is the list of its numbers
pub listed_all : (n : ℕ) (es : List (ℕ × ℤ)) → IsSparse es → AllBelow n es → listed (coef es) n ≡ es
listed_all n es h b =
    let same : n ≡ 0 + n = omega arith in
    from_start (coef es) n ∙ listed_from_all 0 n es h (subst (λ (k : ℕ). AllBelow k es) same b)
