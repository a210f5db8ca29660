-- Lists that grow at one number.
use Rattle.std.specs.Prelude.{ℕ, zero, suc, ◌+◌, ◌<◌, ◌≡◌, ◌⊎◌, Bool, true, false, cond, eqb, not, ◌&&◌, List, [], ◌∷◌, ◌++◌, length, get_or, map, take, slice_index_or}
use Rattle.std.specs.List.{enumerate_from, filter, flat_map}
use Rattle.std.proofs.Common.{refl, ap, sym, subst, ◌∙◌, arith, inl, inr, append_assoc, append-nil, add-one, zero-add}
use Rattle.std.proofs.lemmas.Bool.{cases_Bool, cases_eq, ne_eqb}
use Rattle.std.proofs.Math.Seq.{take-suc}
use Rattle.std.proofs.lemmas.Grind.{flat_map-append}
use Rattle.std.proofs.lemmas.List.{get_or-map, get_or_default, map-append}
use Rattle.std.proofs.lemmas.List.Elements.{filter-append}
use Rattle.bz_model.specs.declared.records.Column.{Column}
use Rattle.bz_model.specs.declared.records.Ineq.{Ineq}
use Rattle.bz_model.specs.declared.records.Row.{Row}
use Rattle.bz_model.specs.Parting.{part_of, columns_of, home_of, homes_of, sides_of_row, sides_of_column}
use Rattle.bz_model.specs.PartLists.{AreJoined, ListsAre, bounds_at, only_at, sides_of_columns, sides_of_rows}

module _ {X : Type 0} where
  only_twice : (at : ℕ) (xs ys : List X) (b : ℕ) → only_at at xs b ++ only_at at ys b ≡ only_at at (xs ++ ys) b
  only_twice at xs ys b = elim (cases_Bool (eqb at b)) [ inl t ↦ rw t | inr t ↦ rw t ]

  pub join_then : {old mid new : List (List X)} {f g : ℕ → List X} (h : ℕ → List X) → AreJoined old mid f → AreJoined mid new g → ((b : ℕ) → b < length old → f b ++ g b ≡ h b) → AreJoined old new h
  join_then {old} {mid} {new} {f} {g} h j k e = record {
    count = k.count ∙ j.count;
    each = λ b l. k.each b (rw j.count l) ∙ ap (λ (ys : List X). ys ++ g b) (j.each b l) ∙ append_assoc _ (f b) (g b) ∙ ap (λ (ys : List X). slice_index_or old b [] ++ ys) (e b l);
  }

  -- two additions at one number
  pub join_twice : (at : ℕ) (xs ys : List X) {old mid new : List (List X)} → AreJoined old mid (only_at at xs) → AreJoined mid new (only_at at ys) → AreJoined old new (only_at at (xs ++ ys))
  join_twice at xs ys j k = join_then (only_at at (xs ++ ys)) j k (λ b l. only_twice at xs ys b)

  -- an addition of nothing
  pub join_none : (old : List (List X)) (f : ℕ → List X) → ((b : ℕ) → b < length old → f b ≡ []) → AreJoined old old f
  join_none old f e = record { count = refl; each = λ b l. sym (append-nil _) ∙ ap (λ (ys : List X). slice_index_or old b [] ++ ys) (sym (e b l)) }

  -- what is added to lists that are known
  pub join_known : {n : ℕ} {f g : ℕ → List X} {old new : List (List X)} (h : ℕ → List X) → ListsAre n f old → AreJoined old new g → ((b : ℕ) → b < n → f b ++ g b ≡ h b) → ListsAre n h new
  join_known {n} {f} {g} h o j e = record { count = j.count ∙ o.count; each = λ b l. j.each b (rw o.count l) ∙ ap (λ (ys : List X). ys ++ g b) (o.each b l) ∙ e b l }

-- ---- one more row or column
pub take_next : {X : Type 0} (xs : List X) (i : ℕ) (x : X) → i < length xs → x ≡ get_or xs i x → take (i + 1) xs ≡ take i xs ++ x ∷ []
take_next xs i x l e = ap (λ (k : ℕ). take k xs) (add-one i) ∙ take-suc xs i x l ∙ ap (λ (z : _). take i xs ++ z ∷ []) (sym e)

numbered_suc : {X : Type 0} (n : ℕ) (xs : List X) (i : ℕ) (x : X) → i < length xs → x ≡ get_or xs i x → enumerate_from n (take (suc i) xs) ≡ enumerate_from n (take i xs) ++ (n + i, x) ∷ []
numbered_suc n [] i x l e = absurd (omega arith)
numbered_suc n (y ∷ xs) zero x l e = let z : n ≡ n + 0 = omega arith in ap (λ (k : ℕ). (k, y) ∷ []) z ∙ ap (λ (w : _). (n + 0, w) ∷ []) (sym e)
numbered_suc n (y ∷ xs) (suc i) x l e =
    let k : n + 1 + i ≡ n + suc i = omega arith in
    ap (λ (ys : List _). (n, y) ∷ ys) (numbered_suc (n + 1) xs i x (omega arith) e ∙ ap (λ (j : ℕ). enumerate_from (n + 1) (take i xs) ++ (j, x) ∷ []) k)

numbered_next : {X : Type 0} (n : ℕ) (xs : List X) (i : ℕ) (x : X) → i < length xs → x ≡ get_or xs i x → enumerate_from n (take (i + 1) xs) ≡ enumerate_from n (take i xs) ++ (n + i, x) ∷ []
numbered_next n xs i x l e = ap (λ (k : ℕ). enumerate_from n (take k xs)) (add-one i) ∙ numbered_suc n xs i x l e

flat_push : {X A : Type 0} (f : X → List A) (t : X → Bool) (xs : List X) (x : X) → flat_map f (filter t (xs ++ x ∷ [])) ≡ flat_map f (filter t xs) ++ cond (t x) (f x) []
flat_push f t xs x = rw (filter-append t xs (x ∷ []), flat_map-append f (filter t xs) (filter t (x ∷ []))) (ap (λ (ys : List _). flat_map f (filter t xs) ++ ys) (last (cases_Bool (t x))))
  where
    last : (t x ≡ true) ⊎ (t x ≡ false) → flat_map f (filter t (x ∷ [])) ≡ cond (t x) (f x) []
    last c = elim c [ inl e ↦ rw e (append-nil (f x)) | inr e ↦ rw e ]

home_only : (part : List ℕ) (row : Row) (b : ℕ) → only_at (home_of part row.terms) (sides_of_row part (home_of part row.terms) row) b ≡ cond (eqb (home_of part row.terms) b) (sides_of_row part b row) []
home_only part row b = elim (cases_eq (home_of part row.terms) b) [
  | inl t ↦ subst (λ (k : ℕ). only_at (home_of part row.terms) (sides_of_row part (home_of part row.terms) row) k ≡ cond (eqb (home_of part row.terms) k) (sides_of_row part k row) []) t refl
  | inr t ↦ rw (ne_eqb (home_of part row.terms) b t)
]

-- the part that is kept of a row is its part
pub kept_home : (part homes : List ℕ) (rows : List Row) (i : ℕ) (item : Row) → homes ≡ homes_of part rows → i < length rows →
    item ≡ get_or rows i item → slice_index_or homes i 0 ≡ home_of part item.terms
kept_home part homes rows i item h l e =
    ap (λ (hs : List ℕ). slice_index_or hs i 0) h ∙ get_or-map (λ (r : Row). home_of part r.terms) rows i item 0 l
    ∙ ap (λ (r : Row). home_of part r.terms) (sym e)

pub rows_more : (part : List ℕ) (rows : List Row) (i : ℕ) (row : Row) {old mid new : List (List Ineq)} → i < length rows → row ≡ get_or rows i row → AreJoined old mid (sides_of_rows part (take i rows)) → AreJoined mid new (only_at (home_of part row.terms) (sides_of_row part (home_of part row.terms) row)) → AreJoined old new (sides_of_rows part (take (i + 1) rows))
rows_more part rows i row l e j k = join_then _ j k (λ b m.
    ap (λ (ys : List Ineq). sides_of_rows part (take i rows) b ++ ys) (home_only part row b)
    ∙ sym (ap (λ (rs : List Row). sides_of_rows part rs b) (take_next rows i row l e) ∙ flat_push (sides_of_row part b) (λ row. eqb (home_of part row.terms) b) (take i rows) row))

pub columns_more : (part : List ℕ) (columns : List Column) (i : ℕ) (column : Column) {old mid new : List (List Ineq)} → i < length columns → column ≡ get_or columns i column → AreJoined old mid (sides_of_columns part (enumerate_from 0 (take i columns))) → AreJoined mid new (bounds_at part (i, column)) → AreJoined old new (sides_of_columns part (enumerate_from 0 (take (i + 1) columns)))
columns_more part columns i column l e j k = join_then _ j k (λ b m.
    sym (ap (λ (es : List (ℕ × Column)). sides_of_columns part es b) (numbered_next 0 columns i column l e ∙ ap (λ (n : ℕ). enumerate_from 0 (take i columns) ++ (n, column) ∷ []) (zero-add i))
    ∙ flat_push (sides_of_column part b) (λ e. eqb (part_of part e.0) b && not e.1.integer) (enumerate_from 0 (take i columns)) (i, column)))

-- one more column of a partition
pub columns_push : (part : List ℕ) (i b : ℕ) → i < length part → columns_of (take (i + 1) part) b ≡ columns_of (take i part) b ++ only_at (get_or part i 0) (i ∷ []) b
columns_push part i b l =
    ap (λ (es : List (ℕ × ℕ)). map (λ e. e.0) (filter (λ e. eqb e.1 b) es)) (numbered_next 0 part i (get_or part i 0) l (get_or_default part i 0 (get_or part i 0) l))
    ∙ ap (map (λ e. e.0)) (filter-append (λ e. eqb e.1 b) (enumerate_from 0 (take i part)) ((0 + i, get_or part i 0) ∷ []))
    ∙ map-append (λ e. e.0) (filter (λ e. eqb e.1 b) (enumerate_from 0 (take i part))) _
    ∙ ap (λ (ys : List ℕ). columns_of (take i part) b ++ ys) (last (cases_Bool (eqb (get_or part i 0) b)))
  where
    last : (eqb (get_or part i 0) b ≡ true) ⊎ (eqb (get_or part i 0) b ≡ false) → map (λ (e : ℕ × ℕ). e.0) (filter (λ e. eqb e.1 b) ((0 + i, get_or part i 0) ∷ [])) ≡ only_at (get_or part i 0) (i ∷ []) b
    last c = elim c [ inl t ↦ rw t (ap (λ (k : ℕ). k ∷ []) (zero-add i)) | inr t ↦ rw t ]
