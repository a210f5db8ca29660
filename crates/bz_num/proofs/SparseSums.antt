-- A sum over the pairs of a row at the columns of another one alone is the sum over all pairs: the others give 0.
use Rattle.std.proofs.Common.{◌≡◌, refl, sym, ◌∙◌, ap, ℕ, zero, suc, ◌+◌, ◌<◌, ◌≤◌, ◌-◌, true, false, inl, inr, List, [], ◌∷◌, length, drop, get_or, arith, ℤ, pos, ◌+ℤ◌, ◌*ℤ◌, Result, Ok, Err}
use Rattle.std.specs.List.Sorted.{IsBinarySearchResult, IsSearchInRange}
use Rattle.std.specs.Ordering.{nat_cmp}
use Rattle.std.specs.Prelude.{MatchOption}
use Rattle.std.specs.List.{AllByRecursion}
use Rattle.std.specs.Result.{IsErrAnd, result_ok}
use Rattle.std.specs.declared.cmp.Ordering.TheVariants.{Less, Greater}
use Rattle.std.proofs.lemmas.List.{drop-drop, drop_more, get_or-drop, length-drop}
use Rattle.std.proofs.lemmas.Int.{ints}
use Rattle.std.proofs.lemmas.Bool.{cases_lt}
use Rattle.std.proofs.lemmas.Bool.Decides.{nat_tests}
use Rattle.bz_algebra.specs.Numbers.{IsNarrow}
use Rattle.bz_algebra.specs.Sums.{AllBelow, coef}
use Rattle.bz_algebra.proofs.Ring.{mul_zero, zero_add}
use Rattle.bz_num.specs.declared.products.WideSum.{WideSum}
use Rattle.bz_num.specs.Fold.{Taken, fold_from, goes_wide, pairs_at}
use Rattle.bz_num.specs.Row.{IsSparse, IsSparseFrom}
use Rattle.bz_num.specs.SparseSums.{AreAhead, IsAhead, IsCountBefore, IsFrom, IsMissing, IsPlace, Steps, sum_left}
use Rattle.bz_num.proofs.Coefs.{coef-first, coef-rest}
use Rattle.bz_num.proofs.Rows.{cmp-rises, coef-before, column-from, columns-rise, equal-columns, nowhere}
use Rattle.bz_num.proofs.Folds.{fold_from-step, fold_from-stop}

-- a pair of product 0 leaves a narrow sum as it is
nothing-wide : (sum a : ℤ) → IsNarrow sum → goes_wide sum (a, pos 0) ≡ false
nothing-wide sum a n = rw mul_zero (grind (arith, nat_tests))

pub nothing_taken : (at : ℕ) (sum a : ℤ) (ps : List (ℤ × ℤ)) → IsNarrow sum → fold_from at sum ((a, pos 0) ∷ ps) ≡ fold_from (at + 1) sum ps
nothing_taken at sum a ps n =
    let same : sum +ℤ (a *ℤ pos 0) ≡ sum = rw mul_zero (omega (arith, ints)) in
    fold_from-step at sum (a, pos 0) ps (nothing-wide sum a n) ∙ ap (λ (s : ℤ). fold_from (at + 1) s ps) same

-- where f gives nothing, nothing comes
pub nothing_left : (at : ℕ) (sum : ℤ) (es : List (ℕ × ℤ)) (f : ℕ → ℤ) → IsNarrow sum → ((j : ℕ) → f j ≡ pos 0) → fold_from at sum (pairs_at es f) ≡ Ok sum
nothing_left at sum [] f n h = refl
nothing_left at sum (e ∷ es) f n h =
    ap (λ (z : ℤ). fold_from at sum ((e.1, z) ∷ pairs_at es f)) (h e.0) ∙ nothing_taken at sum e.1 (pairs_at es f) n ∙ nothing_left (at + 1) sum es f n h

-- the same numbers at the columns of the pairs
pub same_numbers : (es : List (ℕ × ℤ)) (f g : ℕ → ℤ) → ((k : ℕ) → k < length es → f (get_or es k (0, pos 0)).0 ≡ g (get_or es k (0, pos 0)).0) → pairs_at es f ≡ pairs_at es g
same_numbers [] f g h = refl
same_numbers (e ∷ es) f g h =
    ap (λ (z : ℤ). (e.1, z) ∷ pairs_at es f) (h 0 (omega arith)) ∙ ap (λ (ps : List (ℤ × ℤ)). (e.1, g e.0) ∷ ps) (same_numbers es f g (λ k l. h (suc k) (omega (arith, l))))

-- an entry at a column that is missing gives nothing
missing_same : (es : List (ℕ × ℤ)) (n : ℕ × ℤ) (f g : ℕ → ℤ) → IsMissing n.0 es → IsAhead n f g → pairs_at es f ≡ pairs_at es g
missing_same [] n f g m a = refl
missing_same (e ∷ es) n f g m a =
    let here : f e.0 ≡ g e.0 = elim (cases_lt e.0 n.0) [
      | inl l ↦ a.before e.0 l ∙ sym (a.nothing e.0 l)
      | inr l ↦ a.behind e.0 (let other : n.0 ≡ e.0 → ⊥ = λ same. m.0 (sym same) in omega (arith, l, other))
    ] in
    ap (λ (z : ℤ). (e.1, z) ∷ pairs_at es f) here ∙ ap (λ (ps : List (ℤ × ℤ)). (e.1, g e.0) ∷ ps) (missing_same es n f g m.1 a)

-- columns above one are not at it
above_missing : (low column : ℕ) (es : List (ℕ × ℤ)) → column < low → IsSparseFrom low es → IsMissing column es
above_missing low column [] l h = tt
above_missing low column (e ∷ es) l h =
    ((λ same. omega (arith, h.0.column)), above_missing (suc e.0) column es (omega (arith, h.0.column)) h.1)

same_place : (i : ℕ) → suc (i + 1) ≡ suc i + 1
same_place i = omega arith

-- the pairs before the one at the entry's column give nothing
found_left : (low at : ℕ) (sum : ℤ) (es : List (ℕ × ℤ)) (n : ℕ × ℤ) (f g : ℕ → ℤ) (i : ℕ) → IsNarrow sum → IsSparseFrom low es → IsAhead n f g → i < length es → (get_or es i (0, pos 0)).0 ≡ n.0
    → fold_from at sum (pairs_at es f) ≡ fold_from (at + i) sum (((get_or es i (0, pos 0)).1, n.1) ∷ pairs_at (drop (i + 1) es) g)
found_left low at sum [] n f g i w h a l c = absurd (omega (arith, l))
found_left low at sum (e ∷ es) n f g zero w h a l c =
    let here : f e.0 ≡ n.1 = ap f c ∙ a.here in
    let later : pairs_at es f ≡ pairs_at es g = missing_same es n f g (above_missing (suc e.0) n.0 es (omega (arith, c)) h.1) a in
    let place : at ≡ at + 0 = omega arith in
    ap (λ (z : ℤ). fold_from at sum ((e.1, z) ∷ pairs_at es f)) here
    ∙ ap (λ (ps : List (ℤ × ℤ)). fold_from at sum ((e.1, n.1) ∷ ps)) later
    ∙ ap (λ (p : ℕ). fold_from p sum ((e.1, n.1) ∷ pairs_at es g)) place
found_left low at sum (e ∷ es) n f g (suc i) w h a l c =
    let above : suc e.0 ≤ (get_or es i (0, pos 0)).0 = column-from (suc e.0) es i (0, pos 0) h.1 (omega (arith, l)) in
    let here : f e.0 ≡ pos 0 = a.before e.0 (omega (arith, above, c)) in
    let place : (at + 1) + i ≡ at + suc i = omega arith in
    let more : drop (i + 1) es ≡ drop (suc i + 1) (e ∷ es) = ap (λ (m : ℕ). drop m (e ∷ es)) (same_place i) in
    ap (λ (z : ℤ). fold_from at sum ((e.1, z) ∷ pairs_at es f)) here
    ∙ nothing_taken at sum e.1 (pairs_at es f) w
    ∙ found_left (suc e.0) (at + 1) sum es n f g i w h.1 a (omega (arith, l)) c
    ∙ ap (λ (p : ℕ). fold_from p sum (((get_or es i (0, pos 0)).1, n.1) ∷ pairs_at (drop (i + 1) es) g)) place
    ∙ ap (λ (r : List (ℕ × ℤ)). fold_from (at + suc i) sum (((get_or es i (0, pos 0)).1, n.1) ∷ pairs_at r g)) more

-- what is left of a sparse row is sparse
pub sparse_left : (low i : ℕ) (es : List (ℕ × ℤ)) → IsSparseFrom low es → IsSparse (drop i es)
sparse_left low zero [] h = tt
sparse_left low (suc i) [] h = tt
sparse_left low zero (e ∷ es) h = (record { column = omega arith; some = h.0.some; narrow = h.0.narrow }, h.1)
sparse_left low (suc i) (e ∷ es) h = sparse_left (suc e.0) i es h.1

-- ---- the place of a column
missing_all : (column : ℕ) (es : List (ℕ × ℤ)) → ((k : ℕ) → k < length es → (get_or es k (0, pos 0)).0 ≡ column → ⊥) → IsMissing column es
missing_all column [] h = tt
missing_all column (e ∷ es) h = (h 0 (omega arith), missing_all column es (λ k l. h (suc k) (omega (arith, l))))

pub found_place : (column : ℕ) (es : List (ℕ × ℤ)) (r : Result ℕ ℕ) → IsSparse es → IsSearchInRange r (length es) → IsBinarySearchResult (λ (y : ℕ × ℤ). nat_cmp y.0 column) es r
    → MatchOption (result_ok r) (IsMissing column es) (IsPlace column es)
found_place column es (Ok i) h range told = record { inside = range; column_is = equal-columns _ _ (told (0, pos 0)) }
found_place column es (Err i) h range told = missing_all column es (nowhere column es i h told)

-- ---- one entry
-- the row's pair at its column, behind those that are taken
pair_next : (es : List (ℕ × ℤ)) (at i : ℕ) (sum : ℤ) (n : ℕ × ℤ) (f g : ℕ → ℤ) → IsNarrow sum → IsSparse es → IsPlace n.0 (drop at es) i → IsAhead n f g
    → fold_from at sum (pairs_at (drop at es) f) ≡ fold_from (at + i) sum (((get_or es (at + i) (0, pos 0)).1, n.1) ∷ pairs_at (drop ((at + i) + 1) es) g)
pair_next es at i sum n f g w h p a =
    let pair : get_or (drop at es) i (0, pos 0) ≡ get_or es (at + i) (0, pos 0) = get_or-drop at es i (0, pos 0) in
    let place : at + (i + 1) ≡ (at + i) + 1 = omega arith in
    let later : drop (i + 1) (drop at es) ≡ drop ((at + i) + 1) es = drop-drop (i + 1) at es ∙ ap (λ (m : ℕ). drop m es) place in
    found_left 0 at sum (drop at es) n f g i w (sparse_left 0 at es h) a p.inside p.column_is
    ∙ ap (λ (e : ℕ × ℤ). fold_from (at + i) sum ((e.1, n.1) ∷ pairs_at (drop (i + 1) (drop at es)) g)) pair
    ∙ ap (λ (r : List (ℕ × ℤ)). fold_from (at + i) sum (((get_or es (at + i) (0, pos 0)).1, n.1) ∷ pairs_at r g)) later

-- its product is taken
pub next_taken : (es : List (ℕ × ℤ)) (at i : ℕ) (sum : ℤ) (n : ℕ × ℤ) (x : ℤ) → IsNarrow sum → IsSparse es → IsPlace n.0 (drop at es) i → x ≡ (get_or es (at + i) (0, pos 0)).1 → goes_wide sum (x, n.1) ≡ false
    → (f g : ℕ → ℤ) → IsAhead n f g
    → fold_from ((at + i) + 1) (sum +ℤ (x *ℤ n.1)) (pairs_at (drop ((at + i) + 1) es) g) ≡ fold_from at sum (pairs_at (drop at es) f)
next_taken es at i sum n x w h p e t f g a =
    sym (pair_next es at i sum n f g w h p a
    ∙ ap (λ (y : ℤ). fold_from (at + i) sum ((y, n.1) ∷ pairs_at (drop ((at + i) + 1) es) g)) (sym e)
    ∙ fold_from-step (at + i) sum (x, n.1) (pairs_at (drop ((at + i) + 1) es) g) t)

-- its product or the sum with it is wide
pub next_wide : (es : List (ℕ × ℤ)) (at i : ℕ) (sum : ℤ) (n : ℕ × ℤ) (x : ℤ) → IsNarrow sum → IsSparse es → IsPlace n.0 (drop at es) i → x ≡ (get_or es (at + i) (0, pos 0)).1 → goes_wide sum (x, n.1) ≡ true
    → (f g : ℕ → ℤ) → IsAhead n f g → Err (record { at = at + i }) ≡ fold_from at sum (pairs_at (drop at es) f)
next_wide es at i sum n x w h p e t f g a =
    sym (pair_next es at i sum n f g w h p a
    ∙ ap (λ (y : ℤ). fold_from (at + i) sum ((y, n.1) ∷ pairs_at (drop ((at + i) + 1) es) g)) (sym e)
    ∙ fold_from-stop (at + i) sum (x, n.1) (pairs_at (drop ((at + i) + 1) es) g) t)

-- the row has no pair at its column
pub next_missing : (es : List (ℕ × ℤ)) (at : ℕ) (sum : ℤ) (n : ℕ × ℤ) → IsMissing n.0 (drop at es) → (f g : ℕ → ℤ) → IsAhead n f g
    → fold_from at sum (pairs_at (drop at es) g) ≡ fold_from at sum (pairs_at (drop at es) f)
next_missing es at sum n m f g a = ap (λ (ps : List (ℤ × ℤ)). fold_from at sum ps) (sym (missing_same (drop at es) n f g m a))

pub left_is : (es : List (ℕ × ℤ)) (f : ℕ → ℤ) (t : Taken) (count : ℕ) (sum : ℤ) → t.count ≡ count → t.sum ≡ sum → sum_left es f t ≡ fold_from count sum (pairs_at (drop count es) f)
left_is es f t count sum e d = rw (e, d) refl

-- a step that stops
pub steps_wide : (es : List (ℕ × ℤ)) (f g : ℕ → ℤ) (old new : Taken) (r : Result (Unit {0}) WideSum) (e : WideSum) → IsErrAnd r (λ w. w ≡ e) → Err e ≡ sum_left es f old → Steps es f g old new r
steps_wide es f g old new (Ok u) e told h = absurd told
steps_wide es f g old new (Err w) e told h = ap Err told ∙ h

-- one step, and then another
pub steps_then : (es : List (ℕ × ℤ)) (f g h : ℕ → ℤ) (old mid new : Taken) (r : Result (Unit {0}) WideSum) → sum_left es g mid ≡ sum_left es f old → Steps es g h mid new r → Steps es f h old new r
steps_then es f g h old mid new (Ok u) e s = s ∙ e
steps_then es f g h old mid new (Err w) e s = s ∙ e

pub wide_told : (p : Result ℤ WideSum) (r : Result ℤ WideSum) (e : WideSum) → IsErrAnd r (λ w. w ≡ e) → Err e ≡ p → r ≡ p
wide_told p (Ok u) e told h = absurd told
wide_told p (Err w) e told h = ap Err told ∙ h

-- ---- all entries of another row
-- what comes of the other row's entries from one on, and of g behind them
abbrev pub rest_of : List (ℕ × ℤ) → (ℕ → ℤ) → ℕ → ℤ
rest_of es g j = coef es j +ℤ g j

pub entry_ahead : (low : ℕ) (e : ℕ × ℤ) (es : List (ℕ × ℤ)) (g : ℕ → ℤ) → IsSparseFrom low (e ∷ es) → ((j : ℕ) → j ≤ e.0 → g j ≡ pos 0) → IsAhead e (rest_of (e ∷ es) g) (rest_of es g)
entry_ahead low e es g h a = record {
  before = λ j l.
      let none : coef (e ∷ es) j ≡ pos 0 = coef-before e.0 j (e ∷ es) (record { column = omega arith; some = h.0.some; narrow = h.0.narrow }, h.1) l in
      let nothing : g j ≡ pos 0 = a j (omega (arith, l)) in
      rw (none, nothing) refl;
  here =
      let own : coef (e ∷ es) e.0 ≡ e.1 = coef-first low e es h in
      let nothing : g e.0 ≡ pos 0 = a e.0 (omega arith) in
      rw (own, nothing) (omega (arith, ints));
  behind = λ j l. ap (λ (z : ℤ). z +ℤ g j) (coef-rest j e es (λ same. omega (arith, l, same)));
  nothing = λ j l.
      let none : coef es j ≡ pos 0 = coef-before (suc e.0) j es h.1 (omega (arith, l)) in
      let nothing : g j ≡ pos 0 = a j (omega (arith, l)) in
      rw (none, nothing) refl;
}

-- what holds of each pair holds of the one at a place
pub at_place : {X : Type 0} (P : X → Type 0) (xs : List X) (i : ℕ) (d : X) → AllByRecursion P xs → i < length xs → P (get_or xs i d)
at_place P [] i d h l = absurd (omega (arith, l))
at_place P (x ∷ xs) zero d h l = h.0
at_place P (x ∷ xs) (suc i) d h l = at_place P xs i d h.1 (omega (arith, l))

-- what is left of numbers that are equal is equal
pub same_left : (es : List (ℕ × ℤ)) (f g : ℕ → ℤ) (t : Taken) → ((j : ℕ) → f j ≡ g j) → sum_left es f t ≡ sum_left es g t
same_left es f g t h = ap (λ (ps : List (ℤ × ℤ)). fold_from t.count t.sum ps) (same_numbers (drop t.count es) f g (λ k l. h _))

pub ahead_start : (es other : List (ℕ × ℤ)) (f g : ℕ → ℤ) (t : Taken) → AreAhead other f g → sum_left es (rest_of other g) t ≡ sum_left es f t
ahead_start es other f g t a = same_left es (rest_of other g) f t (λ j. sym (a.sum j))

pub ahead_end : (es : List (ℕ × ℤ)) (g : ℕ → ℤ) (t : Taken) → sum_left es (rest_of [] g) t ≡ sum_left es g t
ahead_end es g t = same_left es (rest_of [] g) g t (λ j. zero_add (g j))

-- what is left of a sparse row behind its first pair is sparse
pub sparse_rest : (e : ℕ × ℤ) (es : List (ℕ × ℤ)) → IsSparse (e ∷ es) → IsSparse es
sparse_rest e es h = sparse_left 0 1 (e ∷ es) h

-- a row alone, with nothing behind it
pub alone_ahead : (es : List (ℕ × ℤ)) → AreAhead es (coef es) (λ j. pos 0)
alone_ahead es = record { sum = λ j. add_none (coef es j); nothing = all_nothing es }
  where
    add_none : (z : ℤ) → z ≡ z +ℤ pos 0
    add_none z = omega (arith, ints)

    all_nothing : (es : List (ℕ × ℤ)) → AllByRecursion (λ e. (j : ℕ) → j ≤ e.0 → pos 0 ≡ pos 0) es
    all_nothing [] = tt
    all_nothing (e ∷ es) = ((λ j l. refl), all_nothing es)

-- ---- the pairs before a column
columns_rise : (low : ℕ) (es : List (ℕ × ℤ)) (i k : ℕ) (d : ℕ × ℤ) → IsSparseFrom low es → i < k → k < length es → (get_or es i d).0 < (get_or es k d).0
columns_rise low [] i k d h up inside = absurd (omega arith)
columns_rise low (e ∷ es) zero zero d h up inside = absurd (omega arith)
columns_rise low (e ∷ es) zero (suc k) d h up inside = let later : suc e.0 ≤ (get_or es k d).0 = column-from (suc e.0) es k d h.1 (omega arith) in omega arith
columns_rise low (e ∷ es) (suc i) zero d h up inside = absurd (omega arith)
columns_rise low (e ∷ es) (suc i) (suc k) d h up inside = columns_rise (suc e.0) es i k d h.1 (omega arith) (omega arith)

is_less : (a b : ℕ) → nat_cmp a b ≡ Less → a < b
is_less a b h = grind (arith, nat_tests)

is_greater : (a b : ℕ) → nat_cmp a b ≡ Greater → b ≤ a
is_greater a b h = grind (arith, nat_tests)

pub counted_found : (column : ℕ) (es : List (ℕ × ℤ)) (i : ℕ) → IsSparse es → i < length es → IsBinarySearchResult (λ (y : ℕ × ℤ). nat_cmp y.0 column) es (Ok i) → IsCountBefore column es i
counted_found column es i h l told =
    let here : (get_or es i (0, pos 0)).0 ≡ column = equal-columns _ _ (told (0, pos 0)) in
    record {
      within = omega (arith, l);
      before = λ k m. let less : (get_or es k (0, pos 0)).0 < (get_or es i (0, pos 0)).0 = columns_rise 0 es k i (0, pos 0) h m l in omega (arith, less, here);
      behind = λ k m w. let more : (get_or es i (0, pos 0)).0 ≤ (get_or es k (0, pos 0)).0 = columns-rise 0 es i k (0, pos 0) h m w in omega (arith, more, here);
    }

pub counted_missing : (column : ℕ) (es : List (ℕ × ℤ)) (i : ℕ) → IsSparse es → i ≤ length es → IsBinarySearchResult (λ (y : ℕ × ℤ). nat_cmp y.0 column) es (Err i) → IsCountBefore column es i
counted_missing column es i h l told =
    let parts = told (λ a b d up inside. cmp-rises (get_or es a d).0 (get_or es b d).0 column (columns-rise 0 es a b d h up inside)) in
    record {
      within = l;
      before = λ k m. is_less _ _ (parts.0 k (0, pos 0) (omega (arith, l, m)) m);
      behind = λ k m w. is_greater _ _ (parts.1 k (0, pos 0) m w);
    }

-- pairs that give 0 are taken
nothing_passed : (n at : ℕ) (sum : ℤ) (es : List (ℕ × ℤ)) (f : ℕ → ℤ) → IsNarrow sum → at + n ≤ length es → ((k : ℕ) → k < at + n → f (get_or es k (0, pos 0)).0 ≡ pos 0)
    → fold_from at sum (pairs_at (drop at es) f) ≡ fold_from (at + n) sum (pairs_at (drop (at + n) es) f)
nothing_passed zero at sum es f w l h = let same : at ≡ at + 0 = omega arith in ap (λ (m : ℕ). fold_from m sum (pairs_at (drop m es) f)) same
nothing_passed (suc n) at sum es f w l h =
    let more : drop at es ≡ get_or es at (0, pos 0) ∷ drop (at + 1) es = drop_more es at (0, pos 0) (omega (arith, l)) in
    let here : f (get_or es at (0, pos 0)).0 ≡ pos 0 = h at (omega arith) in
    let same : (at + 1) + n ≡ at + suc n = omega arith in
    ap (λ (r : List (ℕ × ℤ)). fold_from at sum (pairs_at r f)) more
    ∙ ap (λ (z : ℤ). fold_from at sum (((get_or es at (0, pos 0)).1, z) ∷ pairs_at (drop (at + 1) es) f)) here
    ∙ nothing_taken at sum (get_or es at (0, pos 0)).1 (pairs_at (drop (at + 1) es) f) w
    ∙ nothing_passed n (at + 1) sum es f w (omega (arith, l)) (λ k m. h k (omega (arith, m)))
    ∙ ap (λ (m : ℕ). fold_from m sum (pairs_at (drop m es) f)) same

pub passed_before : (column count : ℕ) (es : List (ℕ × ℤ)) (f : ℕ → ℤ) (old new : Taken) → IsCountBefore column es count → IsNarrow old.sum → old.count < count → new ≡ record { sum = old.sum; count = old.count + (count - old.count) } → ((j : ℕ) → j < column → f j ≡ pos 0)
    → sum_left es f new ≡ sum_left es f old
passed_before column count es f old new c w l n h =
    let all : old.count + (count - old.count) ≡ count = omega (arith, l) in
    rw n (sym (nothing_passed (count - old.count) old.count old.sum es f w (omega (arith, all, c.within)) (λ k m. h _ (c.before k (omega (arith, m, all))))))

-- ---- the pairs from a column on
left_places : {X : Type 0} (es : List X) (at k : ℕ) (d : X) → get_or (drop at es) k d ≡ get_or es (at + k) d
left_places es at k d = get_or-drop at es k d

pub from_column : (column : ℕ) (es : List (ℕ × ℤ)) (f g : ℕ → ℤ) (t : Taken) → IsFrom column f g → ((k : ℕ) → t.count ≤ k → k < length es → column ≤ (get_or es k (0, pos 0)).0) → sum_left es g t ≡ sum_left es f t
from_column column es f g t h b =
    ap (λ (ps : List (ℤ × ℤ)). fold_from t.count t.sum ps)
    (same_numbers (drop t.count es) g f
    (λ k l.
    let at : get_or (drop t.count es) k (0, pos 0) ≡ get_or es (t.count + k) (0, pos 0) = left_places es t.count k (0, pos 0) in
    let inside : t.count + k < length es = omega (arith, l, length-drop t.count es) in
    sym (h.behind _ (rw at (b (t.count + k) (omega arith) inside)))))

pub below_left : (n i : ℕ) (es : List (ℕ × ℤ)) → AllBelow n es → AllBelow n (drop i es)
below_left n zero es h = h
below_left n (suc i) [] h = tt
below_left n (suc i) (e ∷ es) h = below_left n i es h.1
