-- The rows of the slacks' basis, number by number.
use Rattle.std.proofs.Common.{◌≡◌, ◌≢◌, refl, ap, sym, subst, ◌∙◌, inl, inr, ℕ, zero, suc, ◌+◌, ◌<◌, ◌≤◌, arith, ℤ, pos, ◌+ℤ◌, Bool, true, false, List, [], ◌∷◌, ◌++◌, length, get_or}
use Rattle.std.proofs.Math.ListN.{get_or-append}
use Rattle.std.proofs.Math.Seq.{get_or-append_seam}
use Rattle.std.proofs.lemmas.Bool.{cases_eq, eq-eqb, ne_eqb}
use Rattle.std.proofs.lemmas.Bool.Decides.{nat_tests}
use Rattle.std.proofs.lemmas.List.{length-append}
use Rattle.std.proofs.lemmas.List.FromFn.{length-range_with_len, get_or-range_with_len}
use Rattle.std.specs.List.{range_with_len}
use Rattle.bz_algebra.specs.Numbers.{IsNarrow}
use Rattle.bz_algebra.specs.Sums.{coef}
use Rattle.bz_algebra.specs.Tableaus.{Equations, side, IsOwnRow, slacks}
use Rattle.bz_algebra.proofs.Agreement.{tableau_same}
use Rattle.bz_algebra.proofs.Programs.{slack_tableau}
use Rattle.bz_algebra.proofs.Ring.{add_zero, zero_add}
use Rattle.bz_num.specs.Row.{IsSparse, IsSparseFrom}
use Rattle.bz_tableau.specs.declared.programs.Lp.{Lp}
use Rattle.bz_tableau.specs.declared.programs.LpRow.{LpRow}
use Rattle.bz_tableau.specs.Dense.{entry, AreNarrow}
use Rattle.bz_tableau.specs.First.{first_number, IsFirstLineTo, AreFirstLinesTo}
use Rattle.bz_tableau.specs.Programs.{terms_of, rhs_of, IsLp, lp_equations}
use Rattle.bz_tableau.specs.Tables.{line, number, own, IsTableOf, IsSound}

-- ---- sparse rows
coef-below : (low : ℕ) (es : List (ℕ × ℤ)) (j : ℕ) → IsSparseFrom low es → j < low → coef es j ≡ pos 0
coef-below low [] j h l = refl
coef-below low (e ∷ es) j h l = rw (ne_eqb e.0 j (λ t. omega (arith, h.0.column))) (zero_add (coef es j) ∙ coef-below (suc e.0) es j h.1 (omega (arith, h.0.column)))

-- a coefficient is one of the numbers, or 0
coef_narrow-from : (low : ℕ) (es : List (ℕ × ℤ)) (j : ℕ) → IsSparseFrom low es → IsNarrow (coef es j)
coef_narrow-from low [] j h = omega arith
coef_narrow-from low (e ∷ es) j h = elim (cases_eq e.0 j) [
  | inl t ↦ rw (eq-eqb e.0 j t) (subst (λ (z : ℤ). IsNarrow z) (sym (ap (λ (z : ℤ). e.1 +ℤ z) (coef-below (suc e.0) es j h.1 (omega arith)) ∙ add_zero e.1)) h.0.narrow)
  | inr n ↦ rw (ne_eqb e.0 j n) (subst (λ (z : ℤ). IsNarrow z) (sym (zero_add (coef es j))) (coef_narrow-from (suc e.0) es j h.1))
]

pub coef_narrow : (es : List (ℕ × ℤ)) (j : ℕ) → IsSparse es → IsNarrow (coef es j)
coef_narrow es j h = coef_narrow-from 0 es j h

-- ---- rows by place
pub terms_at : (rows : List LpRow) (i : ℕ) (row : LpRow) → row ≡ get_or rows i row → i < length rows → row.terms ≡ terms_of rows i
terms_at [] i row e l = absurd (omega arith)
terms_at (r ∷ rs) zero row e l = ap (λ (x : LpRow). x.terms) e
terms_at (r ∷ rs) (suc i) row e l = terms_at rs i row e (omega arith)

pub rhs_at : (rows : List LpRow) (i : ℕ) (row : LpRow) → row ≡ get_or rows i row → i < length rows → row.rhs ≡ rhs_of rows i
rhs_at [] i row e l = absurd (omega arith)
rhs_at (r ∷ rs) zero row e l = ap (λ (x : LpRow). x.rhs) e
rhs_at (r ∷ rs) (suc i) row e l = rhs_at rs i row e (omega arith)

-- ---- one more
pub first_line-more : (n : ℕ) (s : Equations) (i : ℕ) (row : List ℤ) (x : ℤ) → IsFirstLineTo n s i row → x ≡ first_number s i n → IsFirstLineTo (n + 1) s i (row ++ x ∷ [])
first_line-more n s i row x h e = record {
  width = length-append row (x ∷ []) ∙ omega (arith, h.width);
  numbers = λ j l. elim (cases_eq j n) [
    | inl t ↦ subst (λ (k : ℕ). entry (row ++ x ∷ []) k ≡ first_number s i k) (sym t) (subst (λ (k : ℕ). entry (row ++ x ∷ []) k ≡ x) h.width (get_or-append_seam row x [] (pos 0)) ∙ e)
    | inr m ↦ get_or-append row (x ∷ []) (pos 0) j (omega (arith, h.width)) ∙ h.numbers j (omega arith)
  ];
}

pub narrow-more : (row : List ℤ) (x : ℤ) → AreNarrow row → IsNarrow x → AreNarrow (row ++ x ∷ [])
narrow-more row x h n j l = elim (cases_eq j (length row)) [
  | inl t ↦ subst (λ (k : ℕ). IsNarrow (entry (row ++ x ∷ []) k)) (sym t) (subst (λ (z : ℤ). IsNarrow z) (sym (get_or-append_seam row x [] (pos 0))) n)
  | inr m ↦ let inside : j < length row = omega (arith, length-append row (x ∷ [])) in subst (λ (z : ℤ). IsNarrow z) (sym (get_or-append row (x ∷ []) (pos 0) j inside)) (h j inside)
]

pub first_lines-more : (n : ℕ) (s : Equations) (rows : List (List ℤ)) (x : List ℤ) → AreFirstLinesTo n s rows → IsFirstLineTo (suc (side s)) s n x → AreFirstLinesTo (n + 1) s (rows ++ x ∷ [])
first_lines-more n s rows x h made = record {
  count = length-append rows (x ∷ []) ∙ omega (arith, h.count);
  each = λ k l. elim (cases_eq k n) [
    | inl t ↦ subst (λ (j : ℕ). IsFirstLineTo (suc (side s)) s j (line (rows ++ x ∷ []) j)) (sym t) (subst (λ (v : List ℤ). IsFirstLineTo (suc (side s)) s n v) (sym (subst (λ (j : ℕ). line (rows ++ x ∷ []) j ≡ x) h.count (get_or-append_seam rows x [] []))) made)
    | inr m ↦ subst (λ (v : List ℤ). IsFirstLineTo (suc (side s)) s k v) (sym (get_or-append rows (x ∷ []) [] k (omega (arith, h.count)))) (h.each k (omega arith))
  ];
}

range-more-from : (a n : ℕ) → range_with_len a n ++ (a + n) ∷ [] ≡ range_with_len a (suc n)
range-more-from a zero = let e : a + 0 ≡ a = omega arith in ap (λ (x : ℕ). x ∷ []) e
range-more-from a (suc n) = ap (λ (xs : List ℕ). a ∷ xs) (subst (λ (x : ℕ). range_with_len (a + 1) n ++ x ∷ [] ≡ range_with_len (a + 1) (suc n)) (omega arith) (range-more-from (a + 1) n))

pub range-more : (a n : ℕ) → range_with_len a n ++ (a + n) ∷ [] ≡ range_with_len a (n + 1)
range-more a n = subst (λ (m : ℕ). range_with_len a n ++ (a + n) ∷ [] ≡ range_with_len a m) (add-one n) (range-more-from a n)
  where
    add-one : (n : ℕ) → suc n ≡ n + 1
    add-one n = omega arith

-- ---- the tableau of the slacks
number_before : (s : Equations) (i j : ℕ) → j < s.slack → first_number s i j ≡ s.entry i j
number_before s i j l = grind (arith, nat_tests)

number_own : (s : Equations) (i : ℕ) → i < s.rows → first_number s i (s.slack + i) ≡ pos 1
number_own s i b = grind (arith, nat_tests)

number_other : (s : Equations) (i k : ℕ) → k < s.rows → k ≢ i → first_number s i (s.slack + k) ≡ pos 0
number_other s i k l n = grind (arith, nat_tests)

number_side : (s : Equations) (i : ℕ) → first_number s i (side s) ≡ s.right i
number_side s i = grind (arith, nat_tests)

first_own : (s : Equations) (i : ℕ) (row : List ℤ) → i < s.rows → IsFirstLineTo (suc (side s)) s i row → IsOwnRow s i (entry row)
first_own s i row b h = record {
  columns = λ j l. h.numbers j (omega arith) ∙ number_before s i j l;
  own = h.numbers (s.slack + i) (omega arith) ∙ number_own s i b;
  others = λ k l n. h.numbers (s.slack + k) (omega arith) ∙ number_other s i k l n;
  right = h.numbers (side s) (omega arith) ∙ number_side s i;
}

-- the slacks' columns by list and by place
own_slack : (slack n i : ℕ) → i < suc n → own slack (range_with_len slack n) i ≡ slack + i
own_slack slack n i l = elim (cases_eq i n) [
  | inl t ↦ rw (length-range_with_len slack n, eq-eqb i n t) (omega arith)
  | inr m ↦ rw (length-range_with_len slack n, ne_eqb i n m) (get_or-range_with_len slack n i 0 (omega arith))
]

pub first_table : (s : Equations) (n : ℕ) (rows : List (List ℤ)) → s.rows ≡ suc n → AreFirstLinesTo (suc n) s rows → IsTableOf s s.slack (range_with_len s.slack n) rows
first_table s n rows e h = record {
  slack_is = refl;
  count = e ∙ ap suc (sym (length-range_with_len s.slack n));
  lines = h.count ∙ ap suc (sym (length-range_with_len s.slack n));
  widths = λ i l. (h.each i (omega (arith, h.count))).width;
  tableau = tableau_same s (slacks s) (own s.slack (range_with_len s.slack n)) (number rows) (number rows)
      (slack_tableau s (number rows) (λ i b. first_own s i (line rows i) b (h.each i (omega arith))))
      (λ i b. own_slack s.slack n i (omega arith))
      (λ i j b l. refl);
}

-- the table of the slacks, as `new` makes it
pub first_made : (relaxed : Bool) (lp : Lp) (slack : ℕ) (basis : List ℕ) (rows : List (List ℤ)) → slack ≡ (lp_equations relaxed lp).slack → basis ≡ range_with_len (lp_equations relaxed lp).slack (length lp.rows) → AreFirstLinesTo (suc (length lp.rows)) (lp_equations relaxed lp) rows → IsTableOf (lp_equations relaxed lp) slack basis rows
first_made relaxed lp slack basis rows e f h =
    subst (λ (k : ℕ). IsTableOf (lp_equations relaxed lp) k basis rows) (sym e)
    (subst (λ (b : List ℕ). IsTableOf (lp_equations relaxed lp) (lp_equations relaxed lp).slack b rows) (sym f)
    (first_table (lp_equations relaxed lp) (length lp.rows) rows refl h))

slack_small : (relaxed : Bool) (lp : Lp) → (lp_equations relaxed lp).slack ≤ suc lp.columns
slack_small true lp = omega arith
slack_small false lp = omega arith

pub first_sound : (relaxed : Bool) (lp : Lp) (slack : ℕ) (basis : List ℕ) (rows : List (List ℤ)) → IsLp lp → slack ≡ (lp_equations relaxed lp).slack → basis ≡ range_with_len (lp_equations relaxed lp).slack (length lp.rows) → AreFirstLinesTo (suc (length lp.rows)) (lp_equations relaxed lp) rows → IsSound slack basis rows
first_sound relaxed lp slack basis rows i e f h =
    let few : length basis ≡ length lp.rows = ap length f ∙ length-range_with_len (lp_equations relaxed lp).slack (length lp.rows) in
    let low : (lp_equations relaxed lp).slack ≤ suc lp.columns = slack_small relaxed lp in
    record {
      small = omega (arith, i.few_columns, i.few_rows, e, few, low);
      system = lp_equations relaxed lp;
      table = first_made relaxed lp slack basis rows e f h;
    }
