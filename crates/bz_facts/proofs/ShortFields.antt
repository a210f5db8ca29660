-- No field of a text is longer than the text.
use Rattle.std.proofs.Common.{ℕ, zero, suc, ◌+◌, ◌<◌, ◌≤◌, ◌^◌, ◌≡◌, refl, sym, subst, arith, Bool, true, false, ◌==◌, List, [], ◌∷◌, ◌++◌, drop, filter, length, ◌-◌, slice_index, take, cond}
use Rattle.std.specs.List.{AllByRecursion, enumerate_from, onto_first, slice_split}
use Rattle.std.specs.Str.Lines.{lines, lines_of_parts, strip_carriage_return}
use Rattle.std.proofs.lemmas.List.{length-take-le}
use Rattle.bz_lines.specs.FieldLists.{Fields, field}
use Rattle.bz_lines.specs.Lines.{fields_of, is_blank}
use Rattle.bz_lines.specs.NumberedLines.{NumberedLine, is_kept, numbered_after, numbered_line, numbered_lines}
use Rattle.bz_facts.specs.LineFacts.{pairs}
use Rattle.bz_facts.proofs.SoundLists.{all-map, all-weaker}

-- the field's bytes can be counted
abbrev pub IsShort : List ℕ → Type 0
IsShort w = length w < 2 ^ 64

abbrev Within : ℕ → List ℕ → Type 0
Within n w = length w ≤ n

onto_within : (x n : ℕ) (parts : List (List ℕ)) → AllByRecursion (Within n) parts → AllByRecursion (Within (suc n)) (onto_first x parts)
onto_within x n [] h = (omega arith, tt)
onto_within x n (w ∷ ws) h =
    (omega (arith, h.0), all-weaker (Within n) (Within (suc n)) (λ w l. omega (arith, l)) ws h.1)

pieces_within : (p : ℕ → Bool) (xs : List ℕ) → AllByRecursion (Within (length xs)) (slice_split p xs)
pieces_within p [] = (omega arith, tt)
pieces_within p (x ∷ xs) = by (p x) (pieces_within p xs)
  where
    by : (b : Bool) → AllByRecursion (Within (length xs)) (slice_split p xs) → AllByRecursion (Within (suc (length xs))) (cond b ([] ∷ slice_split p xs) (onto_first x (slice_split p xs)))
    by true h = (omega arith, all-weaker (Within (length xs)) (Within (suc (length xs))) (λ w l. omega (arith, l)) (slice_split p xs) h)
    by false h = onto_within x (length xs) (slice_split p xs) h

all_filter : {X : Type 0} (P : X → Type 0) (p : X → Bool) (xs : List X) → AllByRecursion P xs → AllByRecursion P (filter p xs)
all_filter P p [] h = tt
all_filter P p (x ∷ xs) h = by (p x) (all_filter P p xs h.1)
  where
    by : (b : Bool) → AllByRecursion P (filter p xs) → AllByRecursion P (cond b (x ∷ filter p xs) (filter p xs))
    by true k = (h.0, k)
    by false k = k

fields_within : (line : List ℕ) → AllByRecursion (Within (length line)) (fields_of line)
fields_within line =
    all_filter (Within (length line)) _ (slice_split is_blank line) (pieces_within is_blank line)

stripped_within : (line : List ℕ) → length (strip_carriage_return line) ≤ length line
stripped_within line = by (slice_index line (length line - 1) == 13)
  where
    by : (b : Bool) → length (cond b (take (length line - 1) line) line) ≤ length line
    by true = omega (arith, length-take-le (length line - 1) line (omega arith))
    by false = omega arith

lines_within : (n : ℕ) (parts : List (List ℕ)) → AllByRecursion (Within n) parts → AllByRecursion (Within n) (lines_of_parts parts)
lines_within n [] h = tt
lines_within n (x ∷ []) h = by (length x == 0)
  where
    by : (b : Bool) → AllByRecursion (Within n) (cond b [] (x ∷ []))
    by true = tt
    by false = (h.0, tt)
lines_within n (x ∷ y ∷ more) h =
    (omega (arith, stripped_within x, h.0), lines_within n (y ∷ more) h.1)

enumerated_within : (n k : ℕ) (ls : List (List ℕ)) → AllByRecursion (Within n) ls → AllByRecursion (λ (e : ℕ × List ℕ). length e.1 ≤ n) (enumerate_from k ls)
enumerated_within n k [] h = tt
enumerated_within n k (l ∷ ls) h = (h.0, enumerated_within n (k + 1) ls h.1)

pub short-fields : (text : List ℕ) → length text < 2 ^ 64 → AllByRecursion (λ l. AllByRecursion IsShort l.fields) (numbered_lines text)
unfolding numbered_after
short-fields text few =
    all-map (λ (e : ℕ × List ℕ). length e.1 ≤ length text) (λ l. AllByRecursion IsShort l.fields) numbered_line
    (λ e l. all-weaker (Within (length e.1)) IsShort (λ w k. omega (arith, k, l, few)) (fields_of e.1) (fields_within e.1))
    (filter (λ e. is_kept e.1) (enumerate_from 1 (lines text)))
    (all_filter (λ (e : ℕ × List ℕ). length e.1 ≤ length text) (λ e. is_kept e.1) (enumerate_from 1 (lines text)) (enumerated_within (length text) 1 (lines text) (lines_within (length text) (slice_split (λ b. b == 10) text) (pieces_within (λ b. b == 10) text))))

pub short-behind : (before behind : List NumberedLine) (l : NumberedLine) → AllByRecursion (λ l. AllByRecursion IsShort l.fields) (before ++ l ∷ behind) → AllByRecursion IsShort l.fields
short-behind [] behind l h = h.0
short-behind (b ∷ before) behind l h = short-behind before behind l h.1

-- some of the fields

pub short-drop : (n : ℕ) (fs : Fields) → AllByRecursion IsShort fs → AllByRecursion IsShort (drop n fs)
short-drop n [] h = subst (AllByRecursion IsShort) (sym (nothing n)) tt
  where
    nothing : (n : ℕ) → drop n (let e : Fields = [] in e) ≡ []
    nothing zero = refl
    nothing (suc n) = refl
short-drop zero (f ∷ fs) h = h
short-drop (suc n) (f ∷ fs) h = short-drop n fs h.1

pub short-field : (i : ℕ) (fs : Fields) → AllByRecursion IsShort fs → IsShort (field i fs)
short-field i [] h = omega arith
short-field zero (f ∷ fs) h = h.0
short-field (suc i) (f ∷ fs) h = short-field i fs h.1

pub short-pairs : (fs : Fields) → AllByRecursion IsShort fs → AllByRecursion (λ p. IsShort p.1) (pairs fs)
short-pairs [] h = tt
short-pairs (a ∷ []) h = tt
short-pairs (a ∷ b ∷ fs) h = (h.1.0, short-pairs fs h.1.1)
