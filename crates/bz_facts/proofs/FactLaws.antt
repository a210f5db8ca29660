-- A text has facts, or one fault of its lines; and how a reader that goes line by line comes to them.
use Rattle.std.proofs.Common.{ℕ, ◌≡◌, ◌⊎◌, inl, inr, refl, sym, ap, ◌∙◌, subst, Bool, true, false, ◌||◌, List, [], ◌∷◌, ◌++◌, Option, Some, None, cond, append_assoc, append-nil}
use Rattle.std.specs.List.{last_or, list_any}
use Rattle.bz_lines.specs.FirstFault.{IsFirstFailing, NoLineFails, NoneFails, first_fault}
use Rattle.bz_lines.specs.NumberedLines.{NumberedLine, line_count, numbered_lines}
use Rattle.bz_lines.proofs.BeforeLemmas.{follows_more}
use Rattle.bz_lines.proofs.FirstFaults.{first_fault-none, first_fault-some, no_line_fails, some_line_fails}
use Rattle.bz_facts.specs.declared.faults.MpsKind.{MpsKind}
use Rattle.bz_facts.specs.declared.faults.MpsKind.TheVariants.{NoEnd}
use Rattle.bz_facts.specs.declared.records.Facts.{Facts}
use Rattle.bz_facts.specs.declared.records.Heading.TheVariants.{Rhs, Ranges}
use Rattle.bz_facts.specs.FactTexts.{AreFacts, FailsAt, HasNoEnd, IsFactsOf, IsLineFault, last_number, lines_read}
use Rattle.bz_facts.specs.Headings.{Lines, is_end, up_to_end}
use Rattle.bz_facts.specs.LineFacts.{bounds, columns, entries, given, integers, maximises, row_names, row_types}
use Rattle.bz_facts.specs.LineTests.{line_tests}
use Rattle.bz_facts.proofs.FactLemmas.{up_to_end-behind, up_to_end-end}

-- Each text has facts or a fault, and only one of these.

-- the facts of some lines
abbrev pub facts_of : Lines → Facts
facts_of ls = record {
  maximise = maximises ls;
  row_names = row_names ls;
  row_types = row_types ls;
  columns = columns ls;
  integers = integers ls;
  entries = entries ls;
  right_sides = given Rhs ls;
  ranges = given Ranges ls;
  bounds = bounds ls;
  end = last_number (last_or None ls);
}

pub are_facts : (ls : Lines) → AreFacts ls (facts_of ls)
are_facts ls = record {
  maximise = refl;
  row_names = refl;
  row_types = refl;
  columns = refl;
  integers = refl;
  entries = refl;
  right_sides = refl;
  ranges = refl;
  bounds = refl;
}

-- a text no line of which fails, by whether ENDATA is there
by_end : (text : List ℕ) (ended : Bool) → list_any is_end (lines_read text) ≡ ended → NoLineFails line_tests [] (lines_read text) → ((f : Facts) × IsFactsOf text f) ⊎ ((line : ℕ) × ((kind : MpsKind) × IsLineFault text line kind))
by_end text true e h = inl (facts_of (lines_read text), record { lines = h; ended = e; facts = are_facts (lines_read text); end = refl })
by_end text false e h = inr (line_count text, (NoEnd, inr (record { lines = h; missing = e; number = refl; is = refl })))

-- the fault that was found is the text's
pub found_fails : (text : List ℕ) (l : NumberedLine) (kind : MpsKind) → first_fault line_tests [] (lines_read text) ≡ Some (l, kind) → FailsAt text l.number kind
found_fails text l kind e = record { failing = l; number = refl; first = some_line_fails line_tests [] (lines_read text) l kind e }

by_fault : (text : List ℕ) (found : Option (NumberedLine × MpsKind)) → first_fault line_tests [] (lines_read text) ≡ found → ((f : Facts) × IsFactsOf text f) ⊎ ((line : ℕ) × ((kind : MpsKind) × IsLineFault text line kind))
by_fault text None e = by_end text (list_any is_end (lines_read text)) refl (no_line_fails line_tests [] (lines_read text) e)
by_fault text (Some f) e = inr (f.0.number, (f.1, inl (found_fails text f.0 f.1 e)))

pub text_has_facts_or_fault : (text : List ℕ) → ((f : Facts) × IsFactsOf text f) ⊎ ((line : ℕ) × ((kind : MpsKind) × IsLineFault text line kind))
text_has_facts_or_fault text = by_fault text (first_fault line_tests [] (lines_read text)) refl

-- the fault of a line as a function
found : (text : List ℕ) (line : ℕ) (kind : MpsKind) (h : FailsAt text line kind) → first_fault line_tests [] (lines_read text) ≡ Some (h.failing, kind)
found text line kind h = first_fault-some line_tests [] (lines_read text) h.failing kind h.first

none_found : (text : List ℕ) → NoLineFails line_tests [] (lines_read text) → first_fault line_tests [] (lines_read text) ≡ None
none_found text h = first_fault-none line_tests [] (lines_read text) h

pub passing-not_failing : (text : List ℕ) (line : ℕ) (kind : MpsKind) → NoLineFails line_tests [] (lines_read text) → FailsAt text line kind → ⊥
passing-not_failing text line kind h k =
    let none = none_found text h in
    let some = found text line kind k in
    absurd cc

pub facts-no_fault : (text : List ℕ) (f : Facts) (line : ℕ) (kind : MpsKind) → IsFactsOf text f → IsLineFault text line kind → ⊥
facts-no_fault text f line kind h (inl k) = passing-not_failing text line kind h.lines k
facts-no_fault text f line kind h (inr k) = let ended = h.ended in let missing = k.missing in absurd cc

same_failing : (text : List ℕ) (l m : ℕ) (k j : MpsKind) → FailsAt text l k → FailsAt text m j → (l ≡ m) × (k ≡ j)
same_failing text l m k j h g =
    let pair : Some (h.failing, k) ≡ Some (g.failing, j) = sym (found text l k h) ∙ found text m j g in
    let inside : (h.failing, k) ≡ (g.failing, j) = cc in
    (sym h.number ∙ ap (λ (p : NumberedLine × MpsKind). p.0.number) inside ∙ g.number, ap (λ (p : NumberedLine × MpsKind). p.1) inside)

pub same_line_fault : (text : List ℕ) (l m : ℕ) (k j : MpsKind) → IsLineFault text l k → IsLineFault text m j → (l ≡ m) × (k ≡ j)
same_line_fault text l m k j (inl h) (inl g) = same_failing text l m k j h g
same_line_fault text l m k j (inl h) (inr g) = absurd (passing-not_failing text l k g.lines h)
same_line_fault text l m k j (inr h) (inl g) = absurd (passing-not_failing text m j h.lines g)
same_line_fault text l m k j (inr h) (inr g) = (h.number ∙ sym g.number, h.is ∙ sym g.is)

record_same : (f g : Facts) → f.maximise ≡ g.maximise → f.row_names ≡ g.row_names → f.row_types ≡ g.row_types → f.columns ≡ g.columns → f.integers ≡ g.integers → f.entries ≡ g.entries → f.right_sides ≡ g.right_sides → f.ranges ≡ g.ranges → f.bounds ≡ g.bounds → f.end ≡ g.end → f ≡ g
record_same f g m n t c n' e r s b d = λ i. record {
  maximise = m i;
  row_names = n i;
  row_types = t i;
  columns = c i;
  integers = n' i;
  entries = e i;
  right_sides = r i;
  ranges = s i;
  bounds = b i;
  end = d i;
}

pub same_facts : (text : List ℕ) (f g : Facts) → IsFactsOf text f → IsFactsOf text g → f ≡ g
same_facts text f g h k = record_same f g
    (h.facts.maximise ∙ sym k.facts.maximise) (h.facts.row_names ∙ sym k.facts.row_names)
    (h.facts.row_types ∙ sym k.facts.row_types) (h.facts.columns ∙ sym k.facts.columns)
    (h.facts.integers ∙ sym k.facts.integers) (h.facts.entries ∙ sym k.facts.entries)
    (h.facts.right_sides ∙ sym k.facts.right_sides) (h.facts.ranges ∙ sym k.facts.ranges)
    (h.facts.bounds ∙ sym k.facts.bounds) (h.end ∙ sym k.end)

-- A reader has passed some lines, none of which fails or is that of ENDATA.

pub record HasPassed (text : List ℕ) (before : Lines) (behind : Lines) : Type 0 where
  pub are : numbered_lines text ≡ before ++ behind
  pub passed : NoLineFails line_tests [] before
  pub open_end : list_any is_end before ≡ false

pub passed_start : (text : List ℕ) → HasPassed text [] (numbered_lines text)
passed_start text = record { are = refl; passed = tt; open_end = refl }

pub passed_lines : (text : List ℕ) (before behind : Lines) → HasPassed text before behind → lines_read text ≡ before ++ up_to_end behind
passed_lines text before behind h = ap up_to_end h.are ∙ up_to_end-behind before behind h.open_end

-- the next line fails
pub passed-fails : (text : List ℕ) (before behind : Lines) (l : NumberedLine) (kind : MpsKind) → HasPassed text before (l ∷ behind) → IsFirstFailing (line_tests before l) kind → FailsAt text l.number kind
passed-fails text before behind l kind h f = record {
  failing = l;
  number = refl;
  first = record {
    before = before;
    behind = cond (is_end l) [] (up_to_end behind);
    are = passed_lines text before (l ∷ behind) h;
    passed = h.passed;
    failing = f;
  };
}

any_more : (before : Lines) (l : NumberedLine) → list_any is_end before ≡ false → is_end l ≡ false → list_any is_end (before ++ l ∷ []) ≡ false
any_more [] l e f = rw f refl
any_more (x ∷ before) l e f = any_next (is_end x) before l e f (any_more before l)
  where
    any_next : (b : Bool) (before : Lines) (l : NumberedLine) → (b || list_any is_end before) ≡ false → is_end l ≡ false → (list_any is_end before ≡ false → is_end l ≡ false → list_any is_end (before ++ l ∷ []) ≡ false) → (b || list_any is_end (before ++ l ∷ [])) ≡ false
    any_next true before l e f rest = e
    any_next false before l e f rest = rest e f

-- the next line passes, and is not that of ENDATA
pub passed-next : (text : List ℕ) (before behind : Lines) (l : NumberedLine) → HasPassed text before (l ∷ behind) → NoneFails (line_tests before l) → is_end l ≡ false → HasPassed text (before ++ l ∷ []) behind
passed-next text before behind l h none e = record {
  are = h.are ∙ sym (append_assoc before (l ∷ []) behind);
  passed = follows_more (λ seen l. NoneFails (line_tests seen l)) [] before l h.passed none;
  open_end = any_more before l h.open_end e;
}

-- the next line passes, and is that of ENDATA: these are the lines read, and none of them fails
pub passed-end : (text : List ℕ) (before behind : Lines) (l : NumberedLine) → HasPassed text before (l ∷ behind) → is_end l ≡ true → lines_read text ≡ before ++ l ∷ []
passed-end text before behind l h e =
    passed_lines text before (l ∷ behind) h ∙ ap (λ x. before ++ x) (up_to_end-end l behind e)

pub passed-all : (text : List ℕ) (before behind : Lines) (l : NumberedLine) → HasPassed text before (l ∷ behind) → NoneFails (line_tests before l) → is_end l ≡ true → NoLineFails line_tests [] (lines_read text)
passed-all text before behind l h none e =
    subst (NoLineFails line_tests []) (sym (passed-end text before behind l h e))
    (follows_more (λ seen l. NoneFails (line_tests seen l)) [] before l h.passed none)

any_end : (before : Lines) (l : NumberedLine) → is_end l ≡ true → list_any is_end (before ++ l ∷ []) ≡ true
any_end [] l e = rw e refl
any_end (x ∷ before) l e = or_true (is_end x) (list_any is_end (before ++ l ∷ [])) (any_end before l e)
  where
    or_true : (a b : Bool) → b ≡ true → (a || b) ≡ true
    or_true true b e = refl
    or_true false b e = e

pub passed-ended : (text : List ℕ) (before behind : Lines) (l : NumberedLine) → HasPassed text before (l ∷ behind) → is_end l ≡ true → list_any is_end (lines_read text) ≡ true
passed-ended text before behind l h e =
    ap (list_any is_end) (passed-end text before behind l h e) ∙ any_end before l e

-- no line is left
pub passed-no_end : (text : List ℕ) (before : Lines) → HasPassed text before [] → HasNoEnd text (line_count text) NoEnd
passed-no_end text before h =
    let all : lines_read text ≡ before = passed_lines text before [] h ∙ append-nil before in
    record {
      lines = subst (NoLineFails line_tests []) (sym all) h.passed;
      missing = ap (list_any is_end) all ∙ h.open_end;
      number = refl;
      is = refl;
    }
