-- Rows that keep only the numbers that aren't 0, and two of them met column by column.
use Rattle.std.proofs.Common.{◌≡◌, refl, ap, sym, subst, ◌∙◌, inl, inr, ℕ, zero, suc, ◌+◌, ◌-◌, ◌<◌, ◌≤◌, arith, ℤ, pos, negsuc, ◌+ℤ◌, ◌-ℤ◌, ◌*ℤ◌, List, [], ◌∷◌, ◌++◌, length, map, get_or}
use Rattle.std.proofs.lemmas.Bool.{cases_eq, eq-eqb, ne_eqb}
use Rattle.std.proofs.lemmas.Int.{ints}
use Rattle.std.proofs.Math.IntN.{neg_ℤ}
use Rattle.std.proofs.lemmas.List.FromFn.{length-range_with_len}
use Rattle.std.proofs.lemmas.List.{length-map}
use Rattle.std.specs.List.{range_with_len}
use Rattle.std.specs.Int.RustNames.{unsigned_abs}
use Rattle.bz_algebra.specs.Numbers.{IsNarrow}
use Rattle.bz_algebra.specs.Sums.{AllBelow, coef}
use Rattle.bz_algebra.proofs.Bounded.{by_lt}
use Rattle.bz_algebra.proofs.Ring.{add_zero, mul_zero, neg_mul, one_mul, zero_mul}
use Rattle.bz_algebra.proofs.SumLemmas.{coef_append, coef_beyond}
use Rattle.bz_num.specs.Row.{IsSparse, IsSparseFrom, entry_at}
use Rattle.bz_num.proofs.Coefs.{coef-first, coef-rest}
use Rattle.bz_num.proofs.Pushed.{below_pushed, pushed}
use Rattle.bz_num.proofs.Rows.{coef-at, coef-before, coef-missing, column-from, columns-rise}
use Rattle.bz_tableau.specs.Dense.{entry, AreNarrow, IsNarrowStep, IsWideStep, IsCombined, IsNegated, HasWideStep}
use Rattle.bz_algebra.specs.Tableaus.{Equations, side}
use Rattle.bz_tableau.specs.First.{first_number, IsFirstLineTo}
use Rattle.bz_tableau.specs.Sparse.{spread, column_of, IsPlaceOf, IsNextColumn, IsMerged, HasWideColumn}
use Rattle.bz_tableau.proofs.Clearing.{narrow_step-not_wide}
use Rattle.bz_tableau.proofs.FirstRows.{coef_narrow}

-- ---- rows with all their columns
at_range : (f : ℕ → ℤ) (a n j : ℕ) → j < n → entry (map f (range_with_len a n)) j ≡ f (a + j)
at_range f a zero j l = absurd (omega arith)
at_range f a (suc n) zero l = let e : a ≡ a + 0 = omega arith in ap f e
at_range f a (suc n) (suc j) l = let e : (a + 1) + j ≡ a + suc j = omega arith in at_range f (a + 1) n j (omega arith) ∙ ap f e

pub spread_width : (width : ℕ) (es : List (ℕ × ℤ)) → length (spread width es) ≡ width
spread_width width es = length-map (range_with_len 0 width) (coef es) ∙ length-range_with_len 0 width

pub spread_entry : (width : ℕ) (es : List (ℕ × ℤ)) (j : ℕ) → j < width → entry (spread width es) j ≡ coef es j
spread_entry width es j l = let e : 0 + j ≡ j = omega arith in at_range (coef es) 0 width j l ∙ ap (coef es) e

pub spread_narrow : (width : ℕ) (es : List (ℕ × ℤ)) → IsSparse es → AreNarrow (spread width es)
spread_narrow width es h j l =
    let inside : j < width = omega (arith, spread_width width es) in
    subst (λ (z : ℤ). IsNarrow z) (sym (spread_entry width es j inside)) (coef_narrow es j h)

-- a row that has nothing from a column on
pub below_from : (low n : ℕ) (es : List (ℕ × ℤ)) → IsSparseFrom low es → ((j : ℕ) → n ≤ j → coef es j ≡ pos 0) → AllBelow n es
below_from low n [] h none = tt
below_from low n (e ∷ es) h none = (here, below_from (suc e.0) n es h.1 rest)
  where
    some : (z : ℤ) → 0 < unsigned_abs z → z ≡ pos 0 → ⊥
    some z l e = let f : unsigned_abs z ≡ 0 = ap unsigned_abs e in omega arith

    here : e.0 < n
    here = by_lt e.0 n (λ l. l) (λ m. absurd (some e.1 h.0.some (sym (coef-first low e es h) ∙ none e.0 m)))

    rest : (j : ℕ) → n ≤ j → coef es j ≡ pos 0
    rest j m = elim (cases_eq e.0 j) [
      | inl t ↦ coef-before (suc e.0) j es h.1 (omega arith)
      | inr o ↦ sym (coef-rest j e es o) ∙ none j m
    ]

-- ---- places
pub place_first : (row : List (ℕ × ℤ)) → IsPlaceOf row 0 0
place_first row = record { inside = omega arith; before = λ k l. absurd (omega arith); after = λ k l m. omega arith }

-- the place of a column is that of each later one up to the column that stands there
pub place_up : (row : List (ℕ × ℤ)) (i f c : ℕ) → IsSparse row → IsPlaceOf row i f → f ≤ c → (i < length row → c ≤ column_of row i) → IsPlaceOf row i c
place_up row i f c s p up here = record {
  inside = p.inside;
  before = λ k l. let b : column_of row k < f = p.before k l in omega arith;
  after = λ k l m. let first : c ≤ column_of row i = here (omega arith) in let rises : column_of row i ≤ column_of row k = columns-rise 0 row i k (0, pos 0) s l m in omega arith;
}

-- where the pair stands in the column, the next place is that of the next column
pub place_passed : (row : List (ℕ × ℤ)) (i c : ℕ) → IsSparse row → IsPlaceOf row i c → i < length row → column_of row i ≡ c → IsPlaceOf row (i + 1) (suc c)
place_passed row i c s p l e = record {
  inside = omega arith;
  before = λ k m. elim (cases_eq k i) [
    | inl t ↦ let f : column_of row k ≡ c = ap (column_of row) t ∙ e in omega arith
    | inr n ↦ let b : column_of row k < c = p.before k (omega arith) in omega arith
  ];
  after = λ k m o. let rises : column_of row i < column_of row k = strictly 0 row i k s (omega arith) o in omega arith;
}
  where
    strictly : (low : ℕ) (es : List (ℕ × ℤ)) (i k : ℕ) → IsSparseFrom low es → i < k → k < length es → column_of es i < column_of es k
    strictly low [] i k h l m = absurd (omega arith)
    strictly low (e ∷ es) zero zero h l m = absurd (omega arith)
    strictly low (e ∷ es) zero (suc k) h l m = let later : suc e.0 ≤ column_of es k = column-from (suc e.0) es k (0, pos 0) h.1 (omega arith) in omega arith
    strictly low (e ∷ es) (suc i) zero h l m = absurd (omega arith)
    strictly low (e ∷ es) (suc i) (suc k) h l m = strictly (suc e.0) es i k h.1 (omega arith) (omega arith)

-- where it doesn't, the place stays
pub place_kept : (row : List (ℕ × ℤ)) (i c : ℕ) → IsSparse row → IsPlaceOf row i c → (i < length row → column_of row i ≡ c → ⊥) → IsPlaceOf row i (suc c)
place_kept row i c s p n = place_up row i c (suc c) s p (omega arith) (λ l. let up : c ≤ column_of row i = p.after i (omega arith) l in let off : column_of row i ≡ c → ⊥ = n l in omega (arith, off))

-- a column between two columns of one place holds nothing
pub none_between : (row : List (ℕ × ℤ)) (i f c k : ℕ) → IsSparse row → IsPlaceOf row i f → IsPlaceOf row i c → f ≤ k → k < c → coef row k ≡ pos 0
none_between row i f c k s p q l m = coef-missing k row (0, pos 0) (λ j inside same. by_lt j i
    (λ b. let low : column_of row j < f = p.before j b in omega arith)
    (λ a. let high : c ≤ column_of row j = q.after j a inside in omega arith))

-- past the end nothing is left
pub none_left : (row : List (ℕ × ℤ)) (i f k : ℕ) → IsSparse row → IsPlaceOf row i f → length row ≤ i → f ≤ k → coef row k ≡ pos 0
none_left row i f k s p e l = coef-missing k row (0, pos 0) (λ j inside same. let low : column_of row j < f = p.before j (omega arith) in omega arith)

-- the number at a place
pub number_there : (row : List (ℕ × ℤ)) (i c : ℕ) → IsSparse row → i < length row → column_of row i ≡ c → coef row c ≡ (get_or row i (0, pos 0)).1
number_there row i c s l e = coef-at 0 c row i (0, pos 0) s l e

pub number_none : (row : List (ℕ × ℤ)) (i c : ℕ) → IsSparse row → IsPlaceOf row i c → (i < length row → column_of row i ≡ c → ⊥) → coef row c ≡ pos 0
number_none row i c s p n = none_between row i c (suc c) c s p (place_kept row i c s p n) (omega arith) (omega arith)

-- ---- two rows met column by column
-- all columns below some one are met: new has what they come to
pub record IsMergedTo (kept : ℤ) (row : List (ℕ × ℤ)) (taken : ℤ) (pivot : List (ℕ × ℤ)) (i k : ℕ) (new : List (ℕ × ℤ)) : Type 0 where
  pub floor : ℕ
  pub here : IsPlaceOf row i floor
  pub there : IsPlaceOf pivot k floor
  pub sparse : IsSparse new
  pub numbers : (j : ℕ) → j < floor → coef new j ≡ (kept *ℤ coef row j) -ℤ (taken *ℤ coef pivot j)
  pub narrow : (j : ℕ) → j < floor → IsNarrowStep kept (coef row j) taken (coef pivot j)
  pub below : AllBelow floor new

no_step : (kept taken a b : ℤ) → a ≡ pos 0 → b ≡ pos 0 → (kept *ℤ a) -ℤ (taken *ℤ b) ≡ pos 0
no_step kept taken a b e f =
    let g : kept *ℤ a ≡ pos 0 = ap (λ (z : ℤ). kept *ℤ z) e ∙ mul_zero kept in
    let h : taken *ℤ b ≡ pos 0 = ap (λ (z : ℤ). taken *ℤ z) f ∙ mul_zero taken in
    omega (arith, ints)

narrow_nothing : (kept taken a b : ℤ) → a ≡ pos 0 → b ≡ pos 0 → IsNarrowStep kept a taken b
narrow_nothing kept taken a b e f =
    let g : kept *ℤ a ≡ pos 0 = ap (λ (z : ℤ). kept *ℤ z) e ∙ mul_zero kept in
    let h : taken *ℤ b ≡ pos 0 = ap (λ (z : ℤ). taken *ℤ z) f ∙ mul_zero taken in
    record {
      left = subst (λ (z : ℤ). IsNarrow z) (sym g) (omega arith);
      right = subst (λ (z : ℤ). IsNarrow z) (sym h) (omega arith);
      difference = subst (λ (z : ℤ). IsNarrow z) (sym (no_step kept taken a b e f)) (omega arith);
    }

pub merged_none : (kept : ℤ) (row : List (ℕ × ℤ)) (taken : ℤ) (pivot : List (ℕ × ℤ)) → IsMergedTo kept row taken pivot 0 0 []
merged_none kept row taken pivot = record {
  floor = 0;
  here = place_first row;
  there = place_first pivot;
  sparse = tt;
  numbers = λ j l. absurd (omega arith);
  narrow = λ j l. absurd (omega arith);
  below = tt;
}

-- the next column is not below those that are met
pub next_above : (kept : ℤ) (row : List (ℕ × ℤ)) (taken : ℤ) (pivot : List (ℕ × ℤ)) (i k : ℕ) (new : List (ℕ × ℤ)) (c : ℕ) → (m : IsMergedTo kept row taken pivot i k new) → IsNextColumn row i pivot k c → m.floor ≤ c
next_above kept row taken pivot i k new c m n = elim n.reached [
  | inl r ↦ let up : m.floor ≤ column_of row i = m.here.after i (omega arith) r.0 in let e : column_of row i ≡ c = r.1 in omega arith
  | inr r ↦ let up : m.floor ≤ column_of pivot k = m.there.after k (omega arith) r.0 in let e : column_of pivot k ≡ c = r.1 in omega arith
]

pub here_up : (kept : ℤ) (row : List (ℕ × ℤ)) (taken : ℤ) (pivot : List (ℕ × ℤ)) (i k : ℕ) (new : List (ℕ × ℤ)) (c : ℕ) → IsSparse row → IsMergedTo kept row taken pivot i k new → IsNextColumn row i pivot k c → IsPlaceOf row i c
here_up kept row taken pivot i k new c s m n = place_up row i m.floor c s m.here (next_above kept row taken pivot i k new c m n) n.here

pub there_up : (kept : ℤ) (row : List (ℕ × ℤ)) (taken : ℤ) (pivot : List (ℕ × ℤ)) (i k : ℕ) (new : List (ℕ × ℤ)) (c : ℕ) → IsSparse pivot → IsMergedTo kept row taken pivot i k new → IsNextColumn row i pivot k c → IsPlaceOf pivot k c
there_up kept row taken pivot i k new c s m n = place_up pivot k m.floor c s m.there (next_above kept row taken pivot i k new c m n) n.there

below_more : (n m : ℕ) (es : List (ℕ × ℤ)) → n ≤ m → AllBelow n es → AllBelow m es
below_more n m [] l h = tt
below_more n m (e ∷ es) l h = (omega (arith, h.0), below_more n m es l h.1)

pub new_below : (kept : ℤ) (row : List (ℕ × ℤ)) (taken : ℤ) (pivot : List (ℕ × ℤ)) (i k : ℕ) (new : List (ℕ × ℤ)) (c : ℕ) → IsMergedTo kept row taken pivot i k new → IsNextColumn row i pivot k c → AllBelow c new
new_below kept row taken pivot i k new c m n = below_more m.floor c new (next_above kept row taken pivot i k new c m n) m.below

-- the number of one more pair
coef_pushed-there : (c : ℕ) (x : ℤ) → coef (entry_at c x) c ≡ x
coef_pushed-there c (pos zero) = refl
coef_pushed-there c (pos (suc n)) = rw (eq-eqb c c refl) (add_zero (pos (suc n)))
coef_pushed-there c (negsuc n) = rw (eq-eqb c c refl) (add_zero (negsuc n))

coef_pushed-off : (c : ℕ) (x : ℤ) (j : ℕ) → (c ≡ j → ⊥) → coef (entry_at c x) j ≡ pos 0
coef_pushed-off c (pos zero) j n = refl
coef_pushed-off c (pos (suc m)) j n = rw (ne_eqb c j n) refl
coef_pushed-off c (negsuc m) j n = rw (ne_eqb c j n) refl

pub pushed_at : (c : ℕ) (x : ℤ) (es : List (ℕ × ℤ)) → IsSparse es → AllBelow c es → IsNarrow x → IsSparse (es ++ entry_at c x)
pushed_at c (pos zero) es h b n = subst (λ (xs : List (ℕ × ℤ)). IsSparse xs) (sym (append_nil es)) h
  where
    append_nil : (xs : List (ℕ × ℤ)) → xs ++ [] ≡ xs
    append_nil [] = refl
    append_nil (y ∷ ys) = ap (λ (zs : List (ℕ × ℤ)). y ∷ zs) (append_nil ys)
pushed_at c (pos (suc k)) es h b n = pushed c (pos (suc k)) es h b (omega arith) n
pushed_at c (negsuc k) es h b n = pushed c (negsuc k) es h b (omega arith) n

-- the numbers of the next column come to one more pair
pub merged_more : (kept : ℤ) (row : List (ℕ × ℤ)) (taken : ℤ) (pivot : List (ℕ × ℤ)) (i k : ℕ) (new : List (ℕ × ℤ)) (c : ℕ) (x : ℤ) (i' k' : ℕ)
    → IsSparse row → IsSparse pivot → IsMergedTo kept row taken pivot i k new → IsNextColumn row i pivot k c
    → IsNarrowStep kept (coef row c) taken (coef pivot c) → x ≡ (kept *ℤ coef row c) -ℤ (taken *ℤ coef pivot c)
    → IsPlaceOf row i' (suc c) → IsPlaceOf pivot k' (suc c) → IsMergedTo kept row taken pivot i' k' (new ++ entry_at c x)
merged_more kept row taken pivot i k new c x i' k' s t m n step e here there = record {
  floor = suc c;
  here = here;
  there = there;
  sparse = pushed_at c x new m.sparse (below_more m.floor c new above m.below) (subst (λ (z : ℤ). IsNarrow z) (sym e) step.difference);
  numbers = λ j l. elim (cases_eq c j) [
    | inl q ↦ subst (λ (j : ℕ). coef (new ++ entry_at c x) j ≡ (kept *ℤ coef row j) -ℤ (taken *ℤ coef pivot j)) q at_column
    | inr o ↦ by_lt j m.floor (λ b. off j o ∙ m.numbers j b) (λ b. off j o ∙ coef_beyond m.floor new j m.below b ∙ sym (no_step kept taken (coef row j) (coef pivot j) (row_none j b (omega arith)) (pivot_none j b (omega arith))))
  ];
  narrow = λ j l. elim (cases_eq c j) [
    | inl q ↦ subst (λ (j : ℕ). IsNarrowStep kept (coef row j) taken (coef pivot j)) q step
    | inr o ↦ by_lt j m.floor (λ b. m.narrow j b) (λ b. narrow_nothing kept taken (coef row j) (coef pivot j) (row_none j b (omega arith)) (pivot_none j b (omega arith)))
  ];
  below = below_pushed (suc c) c x new (omega arith) (below_more m.floor (suc c) new (omega (arith, above)) m.below);
}
  where
    above : m.floor ≤ c
    above = next_above kept row taken pivot i k new c m n

    row_none : (j : ℕ) → m.floor ≤ j → j < c → coef row j ≡ pos 0
    row_none j b l = none_between row i m.floor c j s m.here (here_up kept row taken pivot i k new c s m n) b l

    pivot_none : (j : ℕ) → m.floor ≤ j → j < c → coef pivot j ≡ pos 0
    pivot_none j b l = none_between pivot k m.floor c j t m.there (there_up kept row taken pivot i k new c t m n) b l

    off : (j : ℕ) → (c ≡ j → ⊥) → coef (new ++ entry_at c x) j ≡ coef new j
    off j o = coef_append new (entry_at c x) j ∙ ap (λ (z : ℤ). coef new j +ℤ z) (coef_pushed-off c x j o) ∙ add_zero (coef new j)

    zero_plus : (a b : ℤ) → a ≡ pos 0 → a +ℤ b ≡ b
    zero_plus a b z = omega (arith, ints)

    at_column : coef (new ++ entry_at c x) c ≡ (kept *ℤ coef row c) -ℤ (taken *ℤ coef pivot c)
    at_column = coef_append new (entry_at c x) c ∙ zero_plus (coef new c) (coef (entry_at c x) c) (coef_beyond m.floor new c m.below above) ∙ coef_pushed-there c x ∙ e

pub merged_all : (kept : ℤ) (row : List (ℕ × ℤ)) (taken : ℤ) (pivot : List (ℕ × ℤ)) (i k : ℕ) (new : List (ℕ × ℤ)) → IsSparse row → IsSparse pivot → IsMergedTo kept row taken pivot i k new → length row ≤ i → length pivot ≤ k → IsMerged kept row taken pivot new
merged_all kept row taken pivot i k new s t m e f = record {
  sparse = m.sparse;
  numbers = λ j. by_lt j m.floor (λ b. m.numbers j b) (λ b. coef_beyond m.floor new j m.below b ∙ sym (no_step kept taken (coef row j) (coef pivot j) (none_left row i m.floor j s m.here e b) (none_left pivot k m.floor j t m.there f b)));
  narrow = λ j. by_lt j m.floor (λ b. m.narrow j b) (λ b. narrow_nothing kept taken (coef row j) (coef pivot j) (none_left row i m.floor j s m.here e b) (none_left pivot k m.floor j t m.there f b));
}

-- ---- the same with all columns
pub merged_below : (kept : ℤ) (row : List (ℕ × ℤ)) (taken : ℤ) (pivot new : List (ℕ × ℤ)) (n : ℕ) → AllBelow n row → AllBelow n pivot → IsMerged kept row taken pivot new → AllBelow n new
merged_below kept row taken pivot new n b d m = below_from 0 n new m.sparse (λ j l. m.numbers j ∙ no_step kept taken (coef row j) (coef pivot j) (coef_beyond n row j b l) (coef_beyond n pivot j d l))

pub merged_spread : (kept : ℤ) (row : List (ℕ × ℤ)) (taken : ℤ) (pivot new : List (ℕ × ℤ)) (n : ℕ) → IsMerged kept row taken pivot new → IsCombined kept (spread n row) taken (spread n pivot) (spread n new)
merged_spread kept row taken pivot new n m = record {
  width = spread_width n new ∙ sym (spread_width n row);
  numbers = λ j l. let b : j < n = omega (arith, spread_width n row) in spread_entry n new j b ∙ m.numbers j ∙ same j b;
  narrow = λ j l. let b : j < n = omega (arith, spread_width n row) in
      subst (λ (z : ℤ). IsNarrowStep kept z taken (entry (spread n pivot) j)) (sym (spread_entry n row j b))
      (subst (λ (z : ℤ). IsNarrowStep kept (coef row j) taken z) (sym (spread_entry n pivot j b)) (m.narrow j));
}
  where
    same : (j : ℕ) → j < n → (kept *ℤ coef row j) -ℤ (taken *ℤ coef pivot j) ≡ (kept *ℤ entry (spread n row) j) -ℤ (taken *ℤ entry (spread n pivot) j)
    same j b = rw (spread_entry n row j b, spread_entry n pivot j b) refl

pub wide_spread : (kept : ℤ) (row : List (ℕ × ℤ)) (taken : ℤ) (pivot : List (ℕ × ℤ)) (n : ℕ) → AllBelow n row → AllBelow n pivot → HasWideColumn kept row taken pivot → HasWideStep kept (spread n row) taken (spread n pivot)
wide_spread kept row taken pivot n b d w = record {
  column = w.column;
  inside = subst (λ (m : ℕ). w.column < m) (sym (spread_width n row)) inside;
  wide = subst (λ (z : ℤ). IsWideStep kept z taken (entry (spread n pivot) w.column)) (sym (spread_entry n row w.column inside))
      (subst (λ (z : ℤ). IsWideStep kept (coef row w.column) taken z) (sym (spread_entry n pivot w.column inside)) w.wide);
}
  where
    inside : w.column < n
    inside = by_lt w.column n (λ l. l) (λ m. absurd (narrow_step-not_wide kept (coef row w.column) taken (coef pivot w.column) (narrow_nothing kept taken (coef row w.column) (coef pivot w.column) (coef_beyond n row w.column b m) (coef_beyond n pivot w.column d m)) w.wide))

-- each turn passes a pair of one of the rows
pub smaller : (row pivot : List (ℕ × ℤ)) (i k i' k' c : ℕ) → IsNextColumn row i pivot k c → i ≤ i' → k ≤ k' → (i < length row → column_of row i ≡ c → i < i') → (k < length pivot → column_of pivot k ≡ c → k < k')
    → (length row - i') + (length pivot - k') < (length row - i) + (length pivot - k)
smaller row pivot i k i' k' c n l m p q = elim n.reached [
  | inl r ↦ let up : i < i' = p r.0 r.1 in let inside : i < length row = r.0 in omega arith
  | inr r ↦ let up : k < k' = q r.0 r.1 in let inside : k < length pivot = r.0 in omega arith
]

-- two rows that are kept sparsely
pub combined_of : (kept : ℤ) (row : List ℤ) (taken : ℤ) (pivot : List ℤ) (here there new : List (ℕ × ℤ)) → length row ≡ length pivot → row ≡ spread (length row) here → pivot ≡ spread (length pivot) there → IsMerged kept here taken there new → IsCombined kept row taken pivot (spread (length row) new)
combined_of kept row taken pivot here there new w e f m =
    let g : spread (length row) there ≡ pivot = ap (λ (n : ℕ). spread n there) w ∙ sym f in
    let c : IsCombined kept (spread (length row) here) taken (spread (length row) there) (spread (length row) new) = merged_spread kept here taken there new (length row) m in
    subst (λ (p : List ℤ). IsCombined kept row taken p (spread (length row) new)) g
    (subst (λ (r : List ℤ). IsCombined kept r taken (spread (length row) there) (spread (length row) new)) (sym e) c)

pub wide_of : (kept : ℤ) (row : List ℤ) (taken : ℤ) (pivot : List ℤ) (here there : List (ℕ × ℤ)) → length row ≡ length pivot → row ≡ spread (length row) here → pivot ≡ spread (length pivot) there → AllBelow (length row) here → AllBelow (length pivot) there → HasWideColumn kept here taken there → HasWideStep kept row taken pivot
wide_of kept row taken pivot here there w e f b d m =
    let g : spread (length row) there ≡ pivot = ap (λ (n : ℕ). spread n there) w ∙ sym f in
    let c : HasWideStep kept (spread (length row) here) taken (spread (length row) there) = wide_spread kept here taken there (length row) b (subst (λ (n : ℕ). AllBelow n there) (sym w) d) m in
    subst (λ (p : List ℤ). HasWideStep kept row taken p) g
    (subst (λ (r : List ℤ). HasWideStep kept r taken (spread (length row) there)) (sym e) c)

-- a row taken -1 times
negated_number : (a b : ℤ) → (negsuc 0 *ℤ a) -ℤ (pos 0 *ℤ b) ≡ neg_ℤ a
negated_number a b =
    let f : negsuc 0 *ℤ a ≡ neg_ℤ a = neg_mul (pos 1) a ∙ ap neg_ℤ (one_mul a) in
    let g : pos 0 *ℤ b ≡ pos 0 = zero_mul b in
    omega (arith, ints)

pub negated_of : (row : List ℤ) (here new : List (ℕ × ℤ)) → row ≡ spread (length row) here → IsMerged (negsuc 0) here (pos 0) here new → IsNegated row (spread (length row) new)
negated_of row here new e m =
    let c : IsCombined (negsuc 0) row (pos 0) row (spread (length row) new) = combined_of (negsuc 0) row (pos 0) row here here new refl e e m in
    record { width = c.width; numbers = λ j l. c.numbers j l ∙ negated_number (entry row j) (entry row j) }

pub negated_narrow : (here : List (ℕ × ℤ)) → IsSparse here → HasWideColumn (negsuc 0) here (pos 0) here → ⊥
negated_narrow here s w =
    let narrow : IsNarrow (coef here w.column) = coef_narrow here w.column s in
    let f : negsuc 0 *ℤ coef here w.column ≡ neg_ℤ (coef here w.column) = neg_mul (pos 1) (coef here w.column) ∙ ap neg_ℤ (one_mul (coef here w.column)) in
    let g : pos 0 *ℤ coef here w.column ≡ pos 0 = zero_mul (coef here w.column) in
    let turned : IsNarrow (neg_ℤ (coef here w.column)) = narrow_turned (coef here w.column) narrow in
    narrow_step-not_wide (negsuc 0) (coef here w.column) (pos 0) (coef here w.column) (record {
      left = subst (λ (z : ℤ). IsNarrow z) (sym f) turned;
      right = subst (λ (z : ℤ). IsNarrow z) (sym g) (omega arith);
      difference = subst (λ (z : ℤ). IsNarrow z) (sym (negated_number (coef here w.column) (coef here w.column))) turned;
    }) w.wide
  where
    narrow_turned : (z : ℤ) → IsNarrow z → IsNarrow (neg_ℤ z)
    narrow_turned (pos zero) n = n
    narrow_turned (pos (suc k)) n = n
    narrow_turned (negsuc k) n = n

-- ---- a row with one number more
pub numbers_more : (f : ℕ → ℤ) (es : List (ℕ × ℤ)) (j : ℕ) (x : ℤ) → ((k : ℕ) → k < j → coef es k ≡ f k) → AllBelow j es → x ≡ f j → (k : ℕ) → k < j + 1 → coef (es ++ entry_at j x) k ≡ f k
numbers_more f es j x known below e k l = elim (cases_eq j k) [
  | inl t ↦ subst (λ (k : ℕ). coef (es ++ entry_at j x) k ≡ f k) t (coef_append es (entry_at j x) j ∙ zero_plus (coef es j) (coef (entry_at j x) j) (coef_beyond j es j below (omega arith)) ∙ coef_pushed-there j x ∙ e)
  | inr o ↦ coef_append es (entry_at j x) k ∙ ap (λ (z : ℤ). coef es k +ℤ z) (coef_pushed-off j x k o) ∙ add_zero (coef es k) ∙ known k (omega arith)
]
  where
    zero_plus : (a b : ℤ) → a ≡ pos 0 → a +ℤ b ≡ b
    zero_plus a b z = omega (arith, ints)

pub below_next : (j : ℕ) (x : ℤ) (es : List (ℕ × ℤ)) → AllBelow j es → AllBelow (j + 1) (es ++ entry_at j x)
below_next j x es below = below_pushed (j + 1) j x es (omega arith) (below_more j (j + 1) es (omega arith) below)

-- a row kept sparsely that has certain numbers below its width
pub first_spread : (s : Equations) (i : ℕ) (width : ℕ) (es : List (ℕ × ℤ)) → width ≡ suc (side s) → ((k : ℕ) → k < width → coef es k ≡ first_number s i k) → IsFirstLineTo (suc (side s)) s i (spread width es)
first_spread s i width es e h = record {
  width = spread_width width es ∙ e;
  numbers = λ j l. let b : j < width = omega (arith, e) in spread_entry width es j b ∙ h j b;
}
