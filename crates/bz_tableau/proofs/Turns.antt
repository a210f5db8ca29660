-- The rows of a pivot one by one.
use Rattle.std.proofs.Common.{◌≡◌, ◌≢◌, refl, ap, sym, subst, ◌∙◌, inl, inr, ℕ, zero, suc, ◌+◌, ◌<◌, ◌≤◌, drop, set, Option, Some, None, arith, ℤ, pos, ◌<ℤ◌, List, [], ◌∷◌, ◌++◌, length, get_or}
use Rattle.std.proofs.Math.ListN.{drop_of_length-le, get_or-append}
use Rattle.std.proofs.Math.Seq.{drop-cons, get_or-append_seam}
use Rattle.std.proofs.lemmas.Bool.{cases_eq}
use Rattle.std.proofs.lemmas.List.{length-append, get_or_default}
use Rattle.bz_algebra.specs.Tableaus.{side}
use Rattle.bz_tableau.specs.Dense.{DividesRow, IsWideRow}
use Rattle.bz_tableau.specs.Pivots.{IsFirstWideRow, IsTurnedLine, AreNextLines, replaced}
use Rattle.bz_tableau.specs.Tables.{line, number, own, IsSound}

-- a row that was read is the row at its place
pub line_is : (rows : List (List ℤ)) (i : ℕ) (x : List ℤ) → x ≡ get_or rows i x → i < length rows → x ≡ line rows i
line_is rows i x e l = e ∙ get_or_default rows i x [] l

-- the first i rows are made
pub record AreLinesTo (i slack : ℕ) (basis : List ℕ) (rows : List (List ℤ)) (r e : ℕ) (new : List (List ℤ)) : Type 0 where
  pub count : length new ≡ i
  pub each : (k : ℕ) → k < i → IsTurnedLine slack basis rows r e k (line new k)

pub lines-none : (slack : ℕ) (basis : List ℕ) (rows : List (List ℤ)) (r e : ℕ) → AreLinesTo 0 slack basis rows r e []
lines-none slack basis rows r e = record { count = refl; each = λ k l. absurd (omega arith) }

pub lines-more : (i slack : ℕ) (basis : List ℕ) (rows : List (List ℤ)) (r e : ℕ) (new : List (List ℤ)) (x : List ℤ) → AreLinesTo i slack basis rows r e new → IsTurnedLine slack basis rows r e i x → AreLinesTo (i + 1) slack basis rows r e (new ++ x ∷ [])
lines-more i slack basis rows r e new x h made = record {
  count = length-append new (x ∷ []) ∙ omega (arith, h.count);
  each = λ k l. elim (cases_eq k i) [
    | inl t ↦ subst (λ (j : ℕ). IsTurnedLine slack basis rows r e j (line (new ++ x ∷ []) j)) (sym t) (subst (λ (v : List ℤ). IsTurnedLine slack basis rows r e i v) (sym (last_is new x i h.count)) made)
    | inr m ↦ subst (λ (v : List ℤ). IsTurnedLine slack basis rows r e k v) (sym (get_or-append new (x ∷ []) [] k (omega (arith, h.count)))) (h.each k (omega arith))
  ];
}
  where
    last_is : (new : List (List ℤ)) (x : List ℤ) (i : ℕ) → length new ≡ i → line (new ++ x ∷ []) i ≡ x
    last_is new x i e = subst (λ (k : ℕ). line (new ++ x ∷ []) k ≡ x) e (get_or-append_seam new x [] [])

pub lines-all : (i slack : ℕ) (basis : List ℕ) (rows : List (List ℤ)) (r e : ℕ) (new : List (List ℤ)) → AreLinesTo i slack basis rows r e new → i ≡ length rows → AreNextLines slack basis rows r e new
lines-all i slack basis rows r e new h same = record {
  count = h.count ∙ same;
  each = λ k m. h.each k (omega arith);
}

pub first_wide : (i slack : ℕ) (basis : List ℕ) (rows : List (List ℤ)) (r e : ℕ) (new : List (List ℤ)) → AreLinesTo i slack basis rows r e new → i < length rows → i ≢ r → IsWideRow (line rows r) (line rows i) e → IsFirstWideRow rows r e i
first_wide i slack basis rows r e new h l n w = record {
  inside = l;
  other = n;
  here = w;
  first = λ k m o. ((h.each k m).other o).narrow;
}

-- ---- what a sound table gives
module _ (slack : ℕ) (basis : List ℕ) (rows : List (List ℤ)) (s : IsSound slack basis rows) where
  pub sound_width : (i : ℕ) → i < length rows → length (line rows i) ≡ suc (side s.system)
  sound_width i l = s.table.widths i l

  pub sound_own : (i : ℕ) → i < length rows → own slack basis i < suc (side s.system)
  sound_own i l = let inside : own slack basis i < side s.system = s.table.tableau.columns.in_range i (omega (arith, s.table.count, s.table.lines)) in omega arith

  pub sound_positive : (i : ℕ) → i < length rows → (pos 0) <ℤ (number rows i (own slack basis i))
  sound_positive i l = (s.table.tableau.rows i (omega (arith, s.table.count, s.table.lines))).positive

  pub sound_cleared : (i r : ℕ) → i < length rows → r < length rows → i ≢ r → number rows r (own slack basis i) ≡ pos 0
  sound_cleared i r l m n = (s.table.tableau.rows r (omega (arith, s.table.count, s.table.lines))).cleared i (omega (arith, s.table.count, s.table.lines)) n

  pub sound_column : (e : ℕ) → e < slack + length basis → e < suc (side s.system)
  sound_column e l = omega (arith, s.table.slack_is, s.table.count)

  pub sound_lines : length rows ≡ suc (length basis)
  sound_lines = s.table.lines

  pub sound_primitive : (i : ℕ) → i < length rows → (d : ℕ) → DividesRow d (line rows i) → d ≡ 1
  sound_primitive i l d h = (s.table.tableau.rows i (omega (arith, s.table.count, s.table.lines))).primitive d (λ j m. h j (omega (arith, sound_width i l)))

-- ---- the rows that change
-- a row, or what takes its place
abbrev pub picked : List ℤ → Option (List ℤ) → List ℤ
picked row None = row
picked row (Some new) = new

pub replaced_none : (rows : List (List ℤ)) → replaced rows [] ≡ []
replaced_none [] = refl
replaced_none (row ∷ rows) = refl

pub replaced_more : (rows : List (List ℤ)) (changes : List (Option (List ℤ))) (change : Option (List ℤ)) → length changes < length rows → replaced rows (changes ++ change ∷ []) ≡ replaced rows changes ++ picked (line rows (length changes)) change ∷ []
replaced_more [] changes change l = absurd (omega arith)
replaced_more (row ∷ rows) [] None l = ap (λ (rs : List (List ℤ)). row ∷ rs) (replaced_none rows)
replaced_more (row ∷ rows) [] (Some new) l = ap (λ (rs : List (List ℤ)). new ∷ rs) (replaced_none rows)
replaced_more (row ∷ rows) (None ∷ changes) change l = ap (λ (rs : List (List ℤ)). row ∷ rs) (replaced_more rows changes change (omega arith))
replaced_more (row ∷ rows) (Some new ∷ changes) change l = ap (λ (rs : List (List ℤ)). new ∷ rs) (replaced_more rows changes change (omega arith))

pub replaced_length : (rows : List (List ℤ)) (changes : List (Option (List ℤ))) → length changes ≤ length rows → length (replaced rows changes) ≡ length changes
replaced_length rows [] l = ap length (replaced_none rows)
replaced_length [] (change ∷ changes) l = absurd (omega arith)
replaced_length (row ∷ rows) (None ∷ changes) l = ap suc (replaced_length rows changes (omega arith))
replaced_length (row ∷ rows) (Some new ∷ changes) l = ap suc (replaced_length rows changes (omega arith))

-- a row past those that change may be another
replaced_set : (rows : List (List ℤ)) (changes : List (Option (List ℤ))) (k : ℕ) (new : List ℤ) → length changes ≤ k → replaced (set rows k new) changes ≡ replaced rows changes
replaced_set rows [] k new l = replaced_none (set rows k new) ∙ sym (replaced_none rows)
replaced_set [] (change ∷ changes) k new l = refl
replaced_set (row ∷ rows) (change ∷ changes) zero new l = absurd (omega arith)
replaced_set (row ∷ rows) (None ∷ changes) (suc k) new l = ap (λ (rs : List (List ℤ)). row ∷ rs) (replaced_set rows changes k new (omega arith))
replaced_set (row ∷ rows) (Some x ∷ changes) (suc k) new l = ap (λ (rs : List (List ℤ)). x ∷ rs) (replaced_set rows changes k new (omega arith))

dropped_set : (rows : List (List ℤ)) (k : ℕ) (new : List ℤ) → k < length rows → drop k (set rows k new) ≡ new ∷ drop (suc k) rows
dropped_set [] k new l = absurd (omega arith)
dropped_set (row ∷ rows) zero new l = refl
dropped_set (row ∷ rows) (suc k) new l = dropped_set rows k new (omega arith)

dropped : (rows : List (List ℤ)) (k : ℕ) → k < length rows → drop k rows ≡ line rows k ∷ drop (suc k) rows
dropped rows k l = drop-cons rows k [] l

-- what is still to be put in place, with what is there
abbrev pub put_with : List (List ℤ) → List (Option (List ℤ)) → List (List ℤ)
put_with rows changes = replaced rows changes ++ drop (length changes) rows

pub put_all : (rows : List (List ℤ)) (changes : List (Option (List ℤ))) → length changes ≡ length rows → put_with rows changes ≡ replaced rows changes
put_all rows changes e = let none : drop (length changes) rows ≡ [] = drop_of_length-le rows (omega (arith, e)) in rw none (append_nil (replaced rows changes))
  where
    append_nil : (xs : List (List ℤ)) → xs ++ [] ≡ xs
    append_nil [] = refl
    append_nil (x ∷ xs) = ap (λ (ys : List (List ℤ)). x ∷ ys) (append_nil xs)

append_more : (xs : List (List ℤ)) (y : List ℤ) (zs : List (List ℤ)) → (xs ++ y ∷ []) ++ zs ≡ xs ++ y ∷ zs
append_more [] y zs = refl
append_more (x ∷ xs) y zs = ap (λ (ys : List (List ℤ)). x ∷ ys) (append_more xs y zs)

whole_with : (rows : List (List ℤ)) (changes : List (Option (List ℤ))) (change : Option (List ℤ)) → length changes < length rows → put_with rows (changes ++ change ∷ []) ≡ replaced rows changes ++ picked (line rows (length changes)) change ∷ drop (suc (length changes)) rows
whole_with rows changes change l =
    let count : length (changes ++ change ∷ []) ≡ suc (length changes) = length-append changes (change ∷ []) ∙ omega arith in
    rw (replaced_more rows changes change l, count) (append_more (replaced rows changes) (picked (line rows (length changes)) change) (drop (suc (length changes)) rows))

-- the last change is put in place
pub put_new : (rows : List (List ℤ)) (changes : List (Option (List ℤ))) (new : List ℤ) → length changes < length rows → put_with (set rows (length changes) new) changes ≡ put_with rows (changes ++ Some new ∷ [])
put_new rows changes new l = rw (replaced_set rows changes (length changes) new (omega arith), dropped_set rows (length changes) new l) (sym (whole_with rows changes (Some new) l))

-- or the row stays
pub put_kept : (rows : List (List ℤ)) (changes : List (Option (List ℤ))) → length changes < length rows → put_with rows changes ≡ put_with rows (changes ++ None ∷ [])
put_kept rows changes l = ap (λ (rs : List (List ℤ)). replaced rows changes ++ rs) (dropped rows (length changes) l) ∙ sym (whole_with rows changes None l)

-- one row more is turned
pub turned_more : (i slack : ℕ) (basis : List ℕ) (rows : List (List ℤ)) (r e : ℕ) (changes : List (Option (List ℤ))) (change : Option (List ℤ)) → AreLinesTo i slack basis rows r e (replaced rows changes) → length changes ≡ i → i < length rows → IsTurnedLine slack basis rows r e i (picked (line rows i) change) → AreLinesTo (i + 1) slack basis rows r e (replaced rows (changes ++ change ∷ []))
turned_more i slack basis rows r e changes change h count l made =
    let inside : length changes < length rows = omega arith in
    let same : picked (line rows (length changes)) change ≡ picked (line rows i) change = ap (λ (k : ℕ). picked (line rows k) change) count in
    rw (replaced_more rows changes change inside, same) (lines-more i slack basis rows r e (replaced rows changes) (picked (line rows i) change) h made)
