-- A text has not many more lines than bytes, and its lines not more names than lines.
use Rattle.std.proofs.Common.{ℕ, suc, ◌≡◌, ◌≤◌, ◌+◌, arith, ap, refl, Bool, true, false, ◌==◌, List, [], ◌∷◌, ◌++◌, length, map, filter, fold, cond, Option, Some, None, if◌then◌else◌}
use Rattle.std.specs.List.{enumerate_from, slice_split}
use Rattle.std.specs.Str.Lines.{lines, lines_of_parts}
use Rattle.std.proofs.lemmas.List.{length-append}
use Rattle.std.proofs.lemmas.List.Sums.{count_by-le-length}
use Rattle.std.proofs.lemmas.List.Splits.{length-slice_split}
use Rattle.bz_lines.specs.FieldLists.{Fields, field}
use Rattle.bz_lines.specs.LinesBefore.{gathered}
use Rattle.bz_lines.specs.NameLists.{is_among, with_name}
use Rattle.bz_lines.specs.NumberedLines.{is_kept, numbered_after, numbered_line, numbered_lines}
use Rattle.bz_facts.specs.declared.records.BoundType.{BoundType}
use Rattle.bz_facts.specs.declared.records.Heading.TheVariants.{Bounds, Columns, Rows}
use Rattle.bz_facts.specs.Headings.{Lines, on_line_in}
use Rattle.bz_facts.specs.LineFacts.{bound_on, bound_set, bound_sets, bounds, columns, columns_named, is_own, row_names}
use Rattle.bz_facts.specs.Words.{bound_type, is_marker}
use Rattle.bz_facts.proofs.TableLemmas.{filter-shorter}

gathered_few : {L F : Type 0} (f : List L → L → List F) → ((seen : List L) (l : L) → length (f seen l) ≤ 1) → (seen ls : List L) → length (gathered f seen ls) ≤ length ls
gathered_few f few seen [] = omega arith
gathered_few f few seen (l ∷ ls) =
    omega (arith, few seen l, gathered_few f few (seen ++ l ∷ []) ls, length-append (f seen l) (gathered f (seen ++ l ∷ []) ls))

one_or_none : {F : Type 0} (b : Bool) (xs : List F) → length xs ≤ 1 → length (cond b xs []) ≤ 1
one_or_none true xs h = h
one_or_none false xs h = omega arith

pub few-row_names : (ls : Lines) → length (row_names ls) ≤ length ls
few-row_names ls = gathered_few (on_line_in Rows (λ seen l. field 1 l.fields ∷ []))
    (λ seen l. one_or_none _ (field 1 l.fields ∷ []) (omega arith)) [] ls

named_few : (ls : Lines) → length (columns_named ls) ≤ length ls
named_few ls = gathered_few (on_line_in Columns (λ seen l. if is_marker l.fields then [] else field 0 l.fields ∷ []))
    (λ seen l. one_or_none _ (if is_marker l.fields then [] else field 0 l.fields ∷ []) (one (is_marker l.fields) (field 0 l.fields))) [] ls
  where
    one : (b : Bool) (x : List ℕ) → length (cond b [] (x ∷ [])) ≤ 1
    one true x = omega arith
    one false x = omega arith

one_more : (names : List (List ℕ)) (name : List ℕ) → length (with_name names name) ≤ length names + 1
one_more names name = by (is_among names name)
  where
    by : (b : Bool) → length (cond b names (names ++ name ∷ [])) ≤ length names + 1
    by true = omega arith
    by false = omega (arith, length-append names (name ∷ []))

folded_few : (names more : List (List ℕ)) → length (fold with_name names more) ≤ length names + length more
folded_few names [] = omega arith
folded_few names (name ∷ more) = omega (arith, folded_few (with_name names name) more, one_more names name)

pub few-columns : (ls : Lines) → length (columns ls) ≤ length ls
few-columns ls = omega (arith, folded_few [] (columns_named ls), named_few ls)

-- a bound line says one thing at most
pub few-bound : (names sets : List (List ℕ)) (line : ℕ) (o : Option BoundType) (fs : Fields) → length (bound_on names sets line o fs) ≤ 1
few-bound names sets line None fs = omega arith
few-bound names sets line (Some t) fs = one_or_none (is_own sets (bound_set (Some t) fs)) (_ ∷ []) (omega arith)

pub few-bounds : (ls : Lines) → length (bounds ls) ≤ length ls
few-bounds ls = gathered_few (on_line_in Bounds (λ seen l. bound_on (columns seen) (bound_sets seen) l.number (bound_type (field 0 l.fields)) l.fields))
    (λ seen l. one_or_none _ (bound_on (columns seen) (bound_sets seen) l.number (bound_type (field 0 l.fields)) l.fields) (few-bound (columns seen) (bound_sets seen) l.number (bound_type (field 0 l.fields)) l.fields)) [] ls

parts_few : (parts : List (List ℕ)) → length (lines_of_parts parts) ≤ length parts
parts_few [] = omega arith
parts_few (x ∷ []) = last (length x == 0)
  where
    last : (b : Bool) → length (cond b [] (x ∷ [])) ≤ 1
    last true = omega arith
    last false = omega arith
parts_few (x ∷ y ∷ more) = omega (arith, parts_few (y ∷ more))

mapped : {A B : Type 0} (f : A → B) (xs : List A) → length (map f xs) ≡ length xs
mapped f [] = refl
mapped f (x ∷ xs) = ap suc (mapped f xs)

enumerated : {A : Type 0} (n : ℕ) (xs : List A) → length (enumerate_from n xs) ≡ length xs
enumerated n [] = refl
enumerated n (x ∷ xs) = ap suc (enumerated (n + 1) xs)

pub few-lines : (text : List ℕ) → length (numbered_lines text) ≤ length text + 1
unfolding numbered_after
few-lines text =
    omega (arith, mapped numbered_line (filter (λ e. is_kept e.1) (enumerate_from 1 (lines text))), filter-shorter (λ e. is_kept e.1) (enumerate_from 1 (lines text)), enumerated 1 (lines text), parts_few (slice_split (λ b. b == 10) text), length-slice_split (λ b. b == 10) text, count_by-le-length (λ b. b == 10) text)
