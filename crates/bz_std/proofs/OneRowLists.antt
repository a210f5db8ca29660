-- The row of the first numbers of a list: one number more, and that there is no other.
use Rattle.std.proofs.Common.{◌≡◌, ◌≢◌, ◌≤ℤ◌, ◌-◌, ◌^◌, FitsSigned, refl, sym, ap, subst, ◌∙◌, inl, inr, ℕ, zero, suc, ◌+◌, ◌<◌, List, [], ◌∷◌, ◌++◌, arith, ℤ, pos, negsuc, ◌+ℤ◌, append-nil}
use Rattle.std.proofs.lemmas.Bool.{cases_eq}
use Rattle.std.proofs.lemmas.Int.{ints}
use Rattle.std.specs.Int.{w128}
use Rattle.std.specs.Int.RustNames.{unsigned_abs}
use Rattle.bz_algebra.specs.Numbers.{IsNarrow}
use Rattle.bz_algebra.specs.Sums.{AllBelow, coef}
use Rattle.bz_algebra.proofs.Bounded.{by_lt}
use Rattle.bz_algebra.proofs.Ring.{add_zero, zero_add}
use Rattle.bz_algebra.proofs.SumLemmas.{coef_append, coef_beyond, coef_single}
use Rattle.bz_num.specs.Row.{IsSparse, IsSparseFrom, entry_at}
use Rattle.bz_num.proofs.Coefs.{coef-first, coef-rest}
use Rattle.bz_num.proofs.Rows.{coef-before}
use Rattle.bz_num.proofs.Pushed.{below_pushed, pushed}
use Rattle.bz_std.specs.CutsFrom.{AreEntries}
use Rattle.bz_std.specs.NumberLists.{wide_number}
use Rattle.bz_std.proofs.OverColumns.{below_up}

-- ---- stored numbers
pub narrow_stored : (z : ℤ) → FitsSigned w128 z → z ≢ wide_number → IsNarrow z
narrow_stored (pos n) f h = f.sfits
narrow_stored (negsuc n) f h =
    let fits : n < 2 ^ 127 = f.sfits in
    let other : n ≡ 2 ^ 127 - 1 → ⊥ = λ e. h (ap negsuc e) in
    omega (arith, other)

pub stored_narrow : (z : ℤ) → IsNarrow z → z ≢ wide_number
stored_narrow z h e =
    let size : unsigned_abs z ≡ unsigned_abs wide_number = ap unsigned_abs e in
    omega arith

pub stored_nonnegative : (z : ℤ) → (pos 0) ≤ℤ z → z ≢ wide_number
stored_nonnegative z h e = omega (arith, ints)

-- ---- one entry
entry_here : (n : ℕ) (z : ℤ) → coef (entry_at n z) n ≡ z
entry_here n (pos zero) = refl
entry_here n (pos (suc k)) = coef_single n (pos (suc k))
entry_here n (negsuc k) = coef_single n (negsuc k)

entry_before : (n i : ℕ) (z : ℤ) → i < n → coef (entry_at n z) i ≡ pos 0
entry_before n i (pos zero) l = refl
entry_before n i (pos (suc k)) l = coef-rest i (n, pos (suc k)) [] (λ e. omega arith)
entry_before n i (negsuc k) l = coef-rest i (n, negsuc k) [] (λ e. omega arith)

sparse_more : (n : ℕ) (z : ℤ) (es : List (ℕ × ℤ)) → IsSparse es → AllBelow n es → IsNarrow z → IsSparse (es ++ entry_at n z)
sparse_more n (pos zero) es s b h = subst IsSparse (sym (append-nil es)) s
sparse_more n (pos (suc k)) es s b h = pushed n (pos (suc k)) es s b (omega arith) h
sparse_more n (negsuc k) es s b h = pushed n (negsuc k) es s b (omega arith) h

-- ---- the row
pub entries_none : (y : ℕ → ℤ) → AreEntries 0 y []
entries_none y = record { sparse = tt; below = tt; numbers = λ i l. absurd (omega arith) }

pub entries_next : (n : ℕ) (y : ℕ → ℤ) (es : List (ℕ × ℤ)) (z : ℤ) → z ≡ y n → IsNarrow z → AreEntries n y es → AreEntries (n + 1) y (es ++ entry_at n z)
entries_next n y es z e h a = record {
  sparse = sparse_more n z es a.sparse a.below h;
  below = below_pushed (n + 1) n z es (omega arith) (below_up n (n + 1) es (omega arith) a.below);
  numbers = λ i l. coef_append es (entry_at n z) i ∙ elim (cases_eq i n) [
    | inl t ↦ subst (λ (k : ℕ). coef es k +ℤ coef (entry_at n z) k ≡ y k) (sym t) (rw (coef_beyond n es n a.below (omega arith), entry_here n z) (zero_add z ∙ e))
    | inr t ↦ rw (entry_before n i z (omega arith)) (add_zero (coef es i) ∙ a.numbers i (omega arith))
  ];
}

-- ---- no other row
from_first : (low : ℕ) (e : ℕ × ℤ) (es : List (ℕ × ℤ)) → IsSparseFrom low (e ∷ es) → IsSparseFrom e.0 (e ∷ es)
from_first low e es h = (record { column = omega arith; some = h.0.some; narrow = h.0.narrow }, h.1)

-- a row has a number at its first column, and none before it
differ : (low other : ℕ) (e : ℕ × ℤ) (es gs : List (ℕ × ℤ)) → IsSparseFrom low (e ∷ es) → IsSparseFrom other gs → e.0 < other → ((j : ℕ) → coef (e ∷ es) j ≡ coef gs j) → ⊥
differ low other e es gs h k l same =
    let none : e.1 ≡ pos 0 = sym (coef-first low e es h) ∙ same e.0 ∙ coef-before other e.0 gs k l in
    let some : 0 < unsigned_abs e.1 = h.0.some in
    let size : unsigned_abs e.1 ≡ 0 = ap unsigned_abs none in
    omega arith

same_rest : (low : ℕ) (e g : ℕ × ℤ) (es gs : List (ℕ × ℤ)) → IsSparseFrom low (e ∷ es) → IsSparseFrom low (g ∷ gs) → e.0 ≡ g.0 → ((j : ℕ) → coef (e ∷ es) j ≡ coef (g ∷ gs) j) → (j : ℕ) → coef es j ≡ coef gs j
same_rest low e g es gs h k t same j = elim (cases_eq e.0 j) [
  | inl here ↦ coef-before (suc e.0) j es h.1 (omega arith) ∙ sym (coef-before (suc g.0) j gs k.1 (omega arith))
  | inr other ↦ sym (coef-rest j e es other) ∙ same j ∙ coef-rest j g gs (λ at. other (t ∙ at))
]

-- rows with the same numbers are equal
rows_same : (low : ℕ) (es gs : List (ℕ × ℤ)) → IsSparseFrom low es → IsSparseFrom low gs → ((j : ℕ) → coef es j ≡ coef gs j) → es ≡ gs
rows_same low [] [] h k same = refl
rows_same low [] (g ∷ gs) h k same = absurd (differ low (suc g.0) g gs [] k tt (omega arith) (λ j. sym (same j)))
rows_same low (e ∷ es) [] h k same = absurd (differ low (suc e.0) e es [] h tt (omega arith) same)
rows_same low (e ∷ es) (g ∷ gs) h k same = by_lt e.0 g.0
    (λ l. absurd (differ low g.0 e es (g ∷ gs) h (from_first low g gs k) l same))
    (λ m. by_lt g.0 e.0
    (λ l. absurd (differ low e.0 g gs (e ∷ es) k (from_first low e es h) l (λ j. sym (same j))))
    (λ l.
    let t : e.0 ≡ g.0 = omega arith in
    let number : e.1 ≡ g.1 = sym (coef-first low e es h) ∙ same e.0 ∙ ap (coef (g ∷ gs)) t ∙ coef-first low g gs k in
    let first : e ≡ g = λ i. (t i, number i) in
    let later : IsSparseFrom (suc e.0) gs = subst (λ (n : ℕ). IsSparseFrom (suc n) gs) (sym t) k.1 in
    rw (first, rows_same (suc e.0) es gs h.1 later (same_rest low e g es gs h k t same)) refl))

pub entries_unique : (n : ℕ) (y : ℕ → ℤ) (a b : List (ℕ × ℤ)) → AreEntries n y a → AreEntries n y b → a ≡ b
entries_unique n y a b h k = rows_same 0 a b h.sparse k.sparse each
  where
    each : (j : ℕ) → coef a j ≡ coef b j
    each j = by_lt j n (λ l. h.numbers j l ∙ sym (k.numbers j l)) (λ l. coef_beyond n a j h.below l ∙ sym (coef_beyond n b j k.below l))
