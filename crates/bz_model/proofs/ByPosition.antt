-- Rows that are filled position by position, inequality by inequality.
use Rattle.std.proofs.Common.{◌≡◌, refl, sym, ◌∙◌, ap, subst, ℕ, zero, suc, ◌+◌, ◌<◌, ◌≤◌, false, cond, nat_eq, List, [], ◌∷◌, ◌++◌, length, take, get_or, arith, ℤ, pos, negsuc, ◌+ℤ◌, inl, inr, append-nil, length-append}
use Rattle.std.specs.Prelude.{replicate}
use Rattle.std.specs.Prelude.{slice_index_or}
use Rattle.std.specs.List.{AllByRecursion, enumerate_from}
use Rattle.std.proofs.lemmas.Int.{ints}
use Rattle.std.proofs.lemmas.List.{get_or_default, get_or-replicate, length-replicate, take_all}
use Rattle.std.proofs.lemmas.Bool.{cases_eq, cases_lt, ne_eqb, eq-eqb}
use Rattle.bz_algebra.specs.Sums.{AllBelow, coef}
use Rattle.bz_algebra.proofs.SumLemmas.{coef_append, coef_beyond}
use Rattle.bz_num.specs.Row.{IsSparse, IsSparseFrom, entry_at}
use Rattle.bz_num.proofs.Pushed.{below_pushed}
use Rattle.bz_num.proofs.Rows.{column-from}
use Rattle.bz_model.specs.declared.records.Ineq.{Ineq}
use Rattle.bz_model.specs.declared.entries.Terms.{Terms}
use Rattle.bz_model.specs.declared.entries.Terms.TheVariants.{Own, Master}
use Rattle.bz_model.specs.declared.entries.ByPosition.{ByPosition}
use Rattle.bz_model.specs.Entries.{AreEntries, HasEntries, width_in}
use Rattle.bz_model.specs.PartLists.{AreJoined, only_at}
use Rattle.bz_model.specs.Rows.{terms_at, terms_of}
use Rattle.bz_model.proofs.Joins.{join_none, join_then, take_next}

-- ---- the terms of one inequality
-- the number at a column of the first terms, with one term more
coef_next : (es : List (ℕ × ℤ)) (k : ℕ) (e : ℕ × ℤ) (j : ℕ) → k < length es → e ≡ get_or es k e → coef (take (k + 1) es) j ≡ coef (take k es) j +ℤ coef (e ∷ []) j
coef_next es k e j l s = ap (λ (xs : List (ℕ × ℤ)). coef xs j) (take_next es k e l s) ∙ coef_append (take k es) (e ∷ []) j

-- the first terms of a sparse row have nothing at the column of a later one
pub coef_before_place : (low : ℕ) (es : List (ℕ × ℤ)) (k : ℕ) (d : ℕ × ℤ) → IsSparseFrom low es → k < length es → coef (take k es) (get_or es k d).0 ≡ pos 0
coef_before_place low [] k d h l = absurd (omega (arith, l))
coef_before_place low (e ∷ es) zero d h l = refl
coef_before_place low (e ∷ es) (suc k) d h l =
    let above : suc e.0 ≤ (get_or es k d).0 = column-from (suc e.0) es k d h.1 (omega (arith, l)) in
    let t : nat_eq e.0 (get_or es k d).0 ≡ false = ne_eqb e.0 (get_or es k d).0 (λ same. omega (arith, above)) in
    rw (t, coef_before_place (suc e.0) es k d h.1 (omega (arith, l))) (omega (arith, ints))

-- what is added at a position by the first terms and by the next one
added : (place : ℕ) (es : List (ℕ × ℤ)) (k : ℕ) (e : ℕ × ℤ) (i : ℕ) → IsSparse es → k < length es → e ≡ get_or es k e
    → entry_at place (coef (take k es) i) ++ only_at e.0 (entry_at place e.1) i ≡ entry_at place (coef (take (k + 1) es) i)
added place es k e i h l s = elim (cases_eq e.0 i) [
  | inl t ↦
      let none : coef (take k es) i ≡ pos 0 = ap (coef (take k es)) (sym t ∙ ap (λ (x : ℕ × ℤ). x.0) s) ∙ coef_before_place 0 es k e h l in
      let here : coef (e ∷ []) i ≡ e.1 = rw (eq-eqb e.0 i t) (omega (arith, ints)) in
      let all : coef (take (k + 1) es) i ≡ e.1 = coef_next es k e i l s ∙ rw (none, here) (omega (arith, ints)) in
      rw (none, all, eq-eqb e.0 i t) refl
  | inr d ↦
      let here : coef (e ∷ []) i ≡ pos 0 = rw (ne_eqb e.0 i d) (omega (arith, ints)) in
      let all : coef (take (k + 1) es) i ≡ coef (take k es) i = coef_next es k e i l s ∙ rw here (omega (arith, ints)) in
      rw (all, ne_eqb e.0 i d) (append-nil _)
]

-- nothing is added yet
pub none_added : (place : ℕ) (es : List (ℕ × ℤ)) (old : List (List (ℕ × ℤ))) → AreJoined old old (λ i. entry_at place (coef (take 0 es) i))
none_added place es old = join_none old (λ i. entry_at place (coef (take 0 es) i)) (λ b l. refl)

-- one term more is added
pub term_added : (place : ℕ) (es : List (ℕ × ℤ)) (k : ℕ) (e : ℕ × ℤ) {old mid new : List (List (ℕ × ℤ))} → IsSparse es → k < length es → e ≡ get_or es k e
    → AreJoined old mid (λ i. entry_at place (coef (take k es) i)) → AreJoined mid new (only_at e.0 (entry_at place e.1)) → AreJoined old new (λ i. entry_at place (coef (take (k + 1) es) i))
term_added place es k e h l s j m = join_then (λ i. entry_at place (coef (take (k + 1) es) i)) j m (λ i w. added place es k e i h l s)

-- nothing is added yet at the column of the next term
pub still_below : (place : ℕ) (es : List (ℕ × ℤ)) (k : ℕ) (e : ℕ × ℤ) {old mid : List (List (ℕ × ℤ))} → IsSparse es → k < length es → e ≡ get_or es k e → e.0 < length old
    → AreJoined old mid (λ i. entry_at place (coef (take k es) i)) → AllBelow place (slice_index_or old e.0 []) → AllBelow place (slice_index_or mid e.0 [])
still_below place es k e {old} {mid} h l s w j b =
    let none : coef (take k es) e.0 ≡ pos 0 = ap (coef (take k es)) (ap (λ (x : ℕ × ℤ). x.0) s) ∙ coef_before_place 0 es k e h l in
    let same : slice_index_or mid e.0 [] ≡ slice_index_or old e.0 [] = j.each e.0 w ∙ ap (λ (z : ℤ). slice_index_or old e.0 [] ++ entry_at place z) none ∙ append-nil _ in
    subst (AllBelow place) (sym same) b

-- all terms are added
pub all_added : (place : ℕ) (es : List (ℕ × ℤ)) (k : ℕ) {old new : List (List (ℕ × ℤ))} → length es ≤ k
    → AreJoined old new (λ i. entry_at place (coef (take k es) i)) → AreJoined old new (λ i. entry_at place (coef es i))
all_added place es k {old} {new} l j = subst (λ (xs : List (ℕ × ℤ)). AreJoined old new (λ i. entry_at place (coef xs i))) (take_all k es l) j

-- ---- one inequality more
-- the first inequalities stand in the rows of their positions, and none of the others does
pub record AreEntriesTo (k width : ℕ) (terms : ℕ → List (ℕ × ℤ)) (lists : List (List (ℕ × ℤ))) : Type 0 where
  pub count : length lists ≡ width
  pub below : (i : ℕ) → i < width → AllBelow k (slice_index_or lists i [])
  pub each : (i : ℕ) → i < width → (n : ℕ) → n < k → coef (slice_index_or lists i []) n ≡ coef (terms n) i

coef_entry_at : (k : ℕ) (z : ℤ) (n : ℕ) → coef (entry_at k z) n ≡ cond (nat_eq k n) z (pos 0)
coef_entry_at k (pos zero) n = elim (cases_eq k n) [ inl t ↦ rw (eq-eqb k n t) refl | inr d ↦ rw (ne_eqb k n d) refl ]
coef_entry_at k (pos (suc m)) n = elim (cases_eq k n) [ inl t ↦ rw (eq-eqb k n t) (omega (arith, ints)) | inr d ↦ rw (ne_eqb k n d) (omega (arith, ints)) ]
coef_entry_at k (negsuc m) n = elim (cases_eq k n) [ inl t ↦ rw (eq-eqb k n t) (omega (arith, ints)) | inr d ↦ rw (ne_eqb k n d) (omega (arith, ints)) ]

below_more : (n m : ℕ) (es : List (ℕ × ℤ)) → n ≤ m → AllBelow n es → AllBelow m es
below_more n m [] l h = tt
below_more n m (e ∷ es) l h = (omega (arith, h.0, l), below_more n m es l h.1)

pub entries_start : (width : ℕ) (terms : ℕ → List (ℕ × ℤ)) (lists : List (List (ℕ × ℤ))) → lists ≡ replicate width [] → AreEntriesTo 0 width terms lists
entries_start width terms lists e = record {
  count = ap length e ∙ length-replicate width [];
  below = λ i l. subst (AllBelow 0) (sym (ap (λ (xs : List (List (ℕ × ℤ))). slice_index_or xs i []) e ∙ get_or-replicate width i [] [] l)) tt;
  each = λ i l n m. absurd (omega (arith, m));
}

pub entries_more : (k width : ℕ) (terms : ℕ → List (ℕ × ℤ)) {old new : List (List (ℕ × ℤ))} → AreEntriesTo k width terms old → AreJoined old new (λ i. entry_at k (coef (terms k) i)) → AreEntriesTo (k + 1) width terms new
entries_more k width terms {old} {new} a j = record {
  count = j.count ∙ a.count;
  below = λ i l. subst (AllBelow (k + 1)) (sym (j.each i (rw a.count l))) (below_pushed (k + 1) k (coef (terms k) i) (slice_index_or old i []) (omega arith) (below_more k (k + 1) _ (omega arith) (a.below i l)));
  each = λ i l n m.
      let list : coef (slice_index_or new i []) n ≡ coef (slice_index_or old i []) n +ℤ cond (nat_eq k n) (coef (terms k) i) (pos 0) =
      ap (λ (es : List (ℕ × ℤ)). coef es n) (j.each i (rw a.count l)) ∙ coef_append (slice_index_or old i []) (entry_at k (coef (terms k) i)) n ∙ ap (λ (z : ℤ). coef (slice_index_or old i []) n +ℤ z) (coef_entry_at k (coef (terms k) i) n) in
      elim (cases_eq k n) [
        | inl t ↦
            let none : coef (slice_index_or old i []) n ≡ pos 0 = coef_beyond k (slice_index_or old i []) n (a.below i l) (omega (arith, t)) in
            let same : coef (terms k) i ≡ coef (terms n) i = ap (λ (p : ℕ). coef (terms p) i) t in
            list ∙ rw (none, eq-eqb k n t, same) (omega (arith, ints))
        | inr d ↦
            let was : coef (slice_index_or old i []) n ≡ coef (terms n) i = a.each i l n (omega (arith, m, d)) in
            list ∙ rw (ne_eqb k n d, was) (omega (arith, ints))
      ];
}

-- all inequalities stand in the rows
pub entries_end : (k width : ℕ) (terms : ℕ → List (ℕ × ℤ)) (lists : List (List (ℕ × ℤ))) → ((n : ℕ) → k ≤ n → terms n ≡ []) → AreEntriesTo k width terms lists → AreEntries width terms lists
entries_end k width terms lists none a = record {
  count = a.count;
  each = λ i l n. elim (cases_lt n k) [
    | inl m ↦ a.each i l n m
    | inr m ↦ coef_beyond k (slice_index_or lists i []) n (a.below i l) m ∙ sym (ap (λ (es : List (ℕ × ℤ)). coef es i) (none n m))
  ];
}

-- ---- the terms of an inequality by its place
pub terms_at_is : (which : Terms) (rows : List Ineq) (n : ℕ) (x : Ineq) → n < length rows → x ≡ get_or rows n x → terms_of which x ≡ terms_at which rows n
terms_at_is Own [] n x l e = absurd (omega (arith, l))
terms_at_is Own (i ∷ is) zero x l e = ap (λ (y : Ineq). y.own) e
terms_at_is Own (i ∷ is) (suc n) x l e = terms_at_is Own is n x (omega (arith, l)) e
terms_at_is Master [] n x l e = absurd (omega (arith, l))
terms_at_is Master (i ∷ is) zero x l e = ap (λ (y : Ineq). y.master) e
terms_at_is Master (i ∷ is) (suc n) x l e = terms_at_is Master is n x (omega (arith, l)) e

-- no inequality is past the end
pub terms_beyond : (which : Terms) (rows : List Ineq) (n : ℕ) → length rows ≤ n → terms_at which rows n ≡ []
terms_beyond Own [] n l = refl
terms_beyond Own (i ∷ is) zero l = absurd (omega (arith, l))
terms_beyond Own (i ∷ is) (suc n) l = terms_beyond Own is n (omega (arith, l))
terms_beyond Master [] n l = refl
terms_beyond Master (i ∷ is) zero l = absurd (omega (arith, l))
terms_beyond Master (i ∷ is) (suc n) l = terms_beyond Master is n (omega (arith, l))

-- ---- one part more
pub record AreListsTo (b : ℕ) (columns : List (List ℕ)) (inequalities : List (List Ineq)) (lists : List ByPosition) : Type 0 where
  pub count : length lists ≡ b
  pub each : AllByRecursion (λ e. HasEntries (width_in columns e.0) (width_in columns 0) (slice_index_or inequalities e.0 []) e.1) (enumerate_from 0 lists)

all_pushed : {X : Type 0} (P : ℕ × X → Type 0) (n : ℕ) (xs : List X) (x : X) → AllByRecursion P (enumerate_from n xs) → P (n + length xs, x) → AllByRecursion P (enumerate_from n (xs ++ x ∷ []))
all_pushed P n [] x h p = let e : n + 0 ≡ n = omega arith in (subst (λ (k : ℕ). P (k, x)) e p, tt)
all_pushed P n (y ∷ xs) x h p = let e : n + suc (length xs) ≡ (n + 1) + length xs = omega arith in (h.0, all_pushed P (n + 1) xs x h.1 (subst (λ (k : ℕ). P (k, x)) e p))

pub list_more : (b : ℕ) (columns : List (List ℕ)) (inequalities : List (List Ineq)) (old : List ByPosition) (new : List ByPosition) (x : ByPosition) (width master_width : ℕ) (rows : List Ineq) → AreListsTo b columns inequalities old → new ≡ old ++ x ∷ []
    → width ≡ width_in columns b → master_width ≡ width_in columns 0 → rows ≡ slice_index_or inequalities b [] → HasEntries width master_width rows x → AreListsTo (b + 1) columns inequalities new
list_more b columns inequalities old new x width master_width rows a n w m r h =
    let P : ℕ × ByPosition → Type 0 = λ e. HasEntries (width_in columns e.0) (width_in columns 0) (slice_index_or inequalities e.0 []) e.1 in
    let here : HasEntries (width_in columns b) (width_in columns 0) (slice_index_or inequalities b []) x = rw (← w, ← m, ← r) h in
    let place : b ≡ 0 + length old = omega (arith, a.count) in
    let last : P (0 + length old, x) = subst (λ (k : ℕ). P (k, x)) place here in
    record {
      count = ap length n ∙ length-append old (x ∷ []) ∙ omega (arith, a.count);
      each = subst (λ (xs : List ByPosition). AllByRecursion P (enumerate_from 0 xs)) (sym n) (all_pushed P 0 old x a.each last);
    }

-- an item of a list of lists, whatever stands past its end
pub item_is : {X : Type 0} (xs : List (List X)) (b : ℕ) (x : List X) → b < length xs → x ≡ get_or xs b x → x ≡ slice_index_or xs b []
item_is xs b x l e = e ∙ get_or_default xs b x [] l
