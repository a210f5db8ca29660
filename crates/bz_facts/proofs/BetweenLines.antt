-- The reader of facts, between two lines.
use Rattle.std.proofs.Common.{ℕ, ◌≡◌, ◌<◌, ◌^◌, ◌-◌, ◌+◌, ◌∙◌, refl, sym, ap, subst, arith, inl, inr, Bool, true, false, ◌&&◌, length, List, [], ◌∷◌, ◌++◌, Option, Some, None, Ok, Err}
use Rattle.std.specs.List.{AllByRecursion, last_or}
use Rattle.std.specs.Bool.{MatchBool}
use Rattle.std.proofs.lemmas.List.{length-append}
use Rattle.bz_lines.specs.FirstFault.{NoneFails, first_failing}
use Rattle.bz_lines.specs.LineReader.{LineReader, lines_in, to_come}
use Rattle.bz_lines.specs.LineReading.{BeginsRefused, NextLine, read_line}
use Rattle.bz_lines.specs.declared.reader.Line.{Line}
use Rattle.bz_lines.specs.declared.reader.LineFault.{LineFault}
use Rattle.bz_lines.specs.declared.reader.LineFault.TheVariants.{NotText as LineNotText, OutOfMemory as NoRoomForLine}
use Rattle.bz_lines.specs.NumberedLines.{NumberedLine, line_count}
use Rattle.bz_lines.proofs.FirstFaults.{none_fails, some_fails}
use Rattle.bz_facts.specs.declared.faults.MpsKind.{MpsKind}
use Rattle.bz_facts.specs.declared.faults.MpsKind.TheVariants.{NoEnd, NotText}
use Rattle.bz_facts.specs.declared.faults.MpsStop.{MpsStop}
use Rattle.bz_facts.specs.declared.faults.MpsStop.TheVariants.{Fault, OutOfMemory}
use Rattle.bz_facts.specs.declared.records.Facts.{Facts}
use Rattle.bz_facts.specs.declared.records.Heading.TheVariants.{EndData}
use Rattle.bz_facts.specs.declared.tables.Tables.{Tables}
use Rattle.bz_facts.specs.FactTexts.{AreFacts, HasNoEnd, IsFactsOf, IsLineFault, StopsBy, last_number, lines_read}
use Rattle.bz_facts.specs.Headings.{Lines, is_end, is_it}
use Rattle.bz_facts.specs.LineStops.{stop_by}
use Rattle.bz_facts.specs.LineSteps.{DataLineAdded, HeaderLineAdded, LineAdded, LinePassed, line_tests_by}
use Rattle.bz_facts.specs.LineTests.{line_tests}
use Rattle.bz_facts.specs.SoundFacts.{AreSound}
use Rattle.bz_facts.specs.TableFacts.{AreEmpty, AreTableFacts}
use Rattle.bz_facts.proofs.FactLaws.{HasPassed, passed-all, passed-end, passed-ended, passed-fails, passed-next, passed-no_end, passed_start}
use Rattle.bz_facts.proofs.FewLines.{few-columns, few-lines, few-row_names}
use Rattle.bz_facts.proofs.Held.{AreBegun, Holds}
use Rattle.bz_facts.proofs.LineAdding.{heading-data, heading-header, last-more}
use Rattle.bz_facts.proofs.LineHolding.{line-holds}
use Rattle.bz_facts.proofs.ShortFields.{IsShort, short-behind, short-fields}
use Rattle.bz_facts.proofs.SoundReading.{IsSound, sound-facts, sound-line, sound-start}
use Rattle.bz_facts.proofs.SameTests.{tests-same}

pub record IsReading (text : List ℕ) (lines : LineReader) (t : Tables) : Type 0 where
  pub before : Lines
  pub passed : HasPassed text before (to_come lines)
  pub holds : Holds before t
  pub sound : IsSound t
  pub count : lines_in lines ≡ line_count text

-- Before any line.

pub empty_holds : (t : Tables) → AreEmpty t → Holds [] t
empty_holds t e = record {
  headers = record {
    section = e.section;
    begun = subst (AreBegun []) (sym e.begun) (record { any = refl; sense = refl; rows = refl; columns = refl; rhs = refl; ranges = refl; bounds = refl });
  };
  sense = record { maximise = e.maximise; told = e.told };
  rows = record { names = e.row_names; types = e.row_types };
  columns = record {
    names = e.columns;
    integers = e.integers;
    entries = e.entries;
    opened = e.opened;
    current = λ i name. absurd (apart (sym i));
  };
  right_sides = record { set = e.right_set; givens = e.right_sides };
  ranges = record { set = e.range_set; givens = e.ranges };
  bounds = record { set = e.bound_set; lines = e.bounds };
}
  where
    apart : true ≡ false → ⊥
    apart e = absurd cc

pub reading-starts : (text : List ℕ) (t : Tables) → AreEmpty t → IsReading text (record { rest = text; number = 0 }) t
reading-starts text t e = record {
  before = [];
  passed = passed_start text;
  holds = empty_holds t e;
  sound = sound-start t e;
  count = omega arith;
}

-- There are few names, so that their places fit.

few_before : (text : List ℕ) (before behind : Lines) → length text < 2 ^ 32 - 1 → HasPassed text before behind → length before < 2 ^ 32 + 1
few_before text before behind l h =
    omega (arith, few-lines text, ap length h.are, length-append before behind)

pub few-rows : (text : List ℕ) (lines : LineReader) (t : Tables) (l : NumberedLine) (more : Lines) → length text < 2 ^ 32 - 1 → IsReading text lines t → to_come lines ≡ l ∷ more → length t.rows.names < 2 ^ 32
few-rows text lines t l more few r e =
    omega (arith, few, few-lines text, ap length r.passed.are, length-append r.before (to_come lines), ap length e, few-row_names r.before, ap length r.holds.rows.names)

pub few-column_names : (text : List ℕ) (lines : LineReader) (t : Tables) (l : NumberedLine) (more : Lines) → length text < 2 ^ 32 - 1 → IsReading text lines t → to_come lines ≡ l ∷ more → length t.columns.names < 2 ^ 32
few-column_names text lines t l more few r e =
    omega (arith, few, few-lines text, ap length r.passed.are, length-append r.before (to_come lines), ap length e, few-columns r.before, ap length r.holds.columns.names)

-- The next line fails.

next_passed : (text : List ℕ) (lines : LineReader) (t : Tables) (l : NumberedLine) (more : Lines) (r : IsReading text lines t) → to_come lines ≡ l ∷ more → HasPassed text r.before (l ∷ more)
next_passed text lines t l more r e = subst (HasPassed text r.before) e r.passed

pub next-fails : (text : List ℕ) (lines : LineReader) (t : Tables) (l : NumberedLine) (more : Lines) (kind : MpsKind) → IsReading text lines t → to_come lines ≡ l ∷ more → first_failing (line_tests_by t l) ≡ Some kind → IsLineFault text l.number kind
next-fails text lines t l more kind r e f =
    inl (passed-fails text r.before more l kind (next_passed text lines t l more r e)
    (some_fails (line_tests r.before l) kind (ap first_failing (sym (tests-same r.before t l r.holds)) ∙ f)))

-- the next line has a refused byte
refused_tests : (seen : Lines) (l : NumberedLine) → l.text ≡ false → first_failing (line_tests seen l) ≡ Some NotText
unfolding line_tests
refused_tests seen l e = rw e refl

refused_first : (text : List ℕ) (before come others : Lines) (n : ℕ) → HasPassed text before come → BeginsRefused n others come → IsLineFault text n NotText
refused_first text before [] others n h b = absurd b
refused_first text before (l ∷ ls) others n h b =
    subst (λ n. IsLineFault text n NotText) b.0
    (inl (passed-fails text before ls l NotText h (some_fails (line_tests before l) NotText (refused_tests before l b.1))))

pub next-refused : (text : List ℕ) (lines : LineReader) (t : Tables) (others : Lines) (n : ℕ) → IsReading text lines t → BeginsRefused n others (to_come lines) → IsLineFault text n NotText
next-refused text lines t others n r b = refused_first text r.before (to_come lines) others n r.passed b

-- The next line passes.

none_failed : (text : List ℕ) (lines : LineReader) (t : Tables) (l : NumberedLine) (r : IsReading text lines t) → first_failing (line_tests_by t l) ≡ None → NoneFails (line_tests r.before l)
none_failed text lines t l r f =
    none_fails (line_tests r.before l) (ap first_failing (sym (tests-same r.before t l r.holds)) ∙ f)

next_short : (text : List ℕ) (lines : LineReader) (t : Tables) (l : NumberedLine) (more : Lines) → length text < 2 ^ 32 - 1 → IsReading text lines t → to_come lines ≡ l ∷ more → AllByRecursion IsShort l.fields
next_short text lines t l more few r e =
    short-behind r.before more l (subst (AllByRecursion (λ l. AllByRecursion IsShort l.fields)) (r.passed.are ∙ ap (λ ls. r.before ++ ls) e) (short-fields text (omega (arith, few))))

pub next-passes : (text : List ℕ) (lines next : LineReader) (t new : Tables) (l : NumberedLine) → length text < 2 ^ 32 - 1 → IsReading text lines t → to_come lines ≡ l ∷ to_come next → lines_in next ≡ lines_in lines → first_failing (line_tests_by t l) ≡ None → LineAdded l t new → is_end l ≡ false → IsReading text next new
next-passes text lines next t new l few r e c f a i = record {
  before = r.before ++ l ∷ [];
  passed = passed-next text r.before (to_come next) l (next_passed text lines t l (to_come next) r e) (none_failed text lines t l r f) i;
  holds = line-holds r.before l t new r.holds f a;
  sound = sound-line t new l (next_short text lines t l (to_come next) few r e) r.sound f a;
  count = c ∙ r.count;
}

-- whether it is that of ENDATA
by_header : (l : NumberedLine) (t new : Tables) (b : Bool) → l.header ≡ b → MatchBool b (HeaderLineAdded l.fields t new) (DataLineAdded t.headers.section l.number l.fields t new) → is_end l ≡ (b && is_it EndData new.headers.section)
by_header l t new true e a =
    ap (is_it EndData) (heading-header l e ∙ a.header.word ∙ sym a.header.section)
by_header l t new false e a = ap (is_it EndData) (heading-data l e)

pub end-known : (l : NumberedLine) (t new : Tables) → LineAdded l t new → is_end l ≡ (l.header && is_it EndData new.headers.section)
end-known l t new a = by_header l t new l.header refl a

held_facts : (seen : Lines) (t : Tables) (end : ℕ) (f : Facts) → Holds seen t → AreTableFacts t end f → AreFacts seen f
held_facts seen t end f h a = record {
  maximise = a.maximise ∙ h.sense.maximise;
  row_names = a.row_names ∙ h.rows.names;
  row_types = a.row_types ∙ h.rows.types;
  columns = a.columns ∙ h.columns.names;
  integers = a.integers ∙ h.columns.integers;
  entries = a.entries ∙ h.columns.entries;
  right_sides = a.right_sides ∙ h.right_sides.givens;
  ranges = a.ranges ∙ h.ranges.givens;
  bounds = a.bounds ∙ h.bounds.lines;
}

pub next-ends : (text : List ℕ) (lines : LineReader) (t new : Tables) (l : NumberedLine) (more : Lines) (f : Facts) → length text < 2 ^ 32 - 1 → IsReading text lines t → to_come lines ≡ l ∷ more → first_failing (line_tests_by t l) ≡ None → LineAdded l t new → is_end l ≡ true → AreTableFacts new l.number f → IsFactsOf text f × AreSound f
next-ends text lines t new l more f few r e p a i k =
    let h = next_passed text lines t l more r e in
    let all : lines_read text ≡ r.before ++ l ∷ [] = passed-end text r.before more l h i in (
      record {
        lines = passed-all text r.before more l h (none_failed text lines t l r p) i;
        ended = passed-ended text r.before more l h i;
        facts = subst (λ ls. AreFacts ls f) (sym all) (held_facts (r.before ++ l ∷ []) new l.number f (line-holds r.before l t new r.holds p a) k);
        end = k.last ∙ sym (ap (λ ls. last_number (last_or None ls)) all ∙ ap last_number (last-more None r.before l));
      },
      sound-facts t new l l.number f (sound-line t new l (next_short text lines t l more few r e) r.sound p a) i p a k,
    )

-- No line is left.

pub nothing-left : (text : List ℕ) (lines next : LineReader) (t : Tables) → IsReading text lines t → to_come lines ≡ [] → next.rest ≡ [] → lines_in next ≡ lines_in lines → IsLineFault text next.number NoEnd
nothing-left text lines next t r e n c =
    let number : next.number ≡ line_count text =
    omega (arith, c, r.count, ap line_count n) in
    inr (subst (λ n. HasNoEnd text n NoEnd) (sym number) (passed-no_end text r.before (subst (HasPassed text r.before) e r.passed)))

-- What the reader of lines answers, and what the reader of a line does.

pub next-stops : (text : List ℕ) (lines next : LineReader) (t : Tables) (fault : LineFault) → IsReading text lines t → NextLine lines (Err fault) next → StopsBy (IsLineFault text) (stop_by fault)
next-stops text lines next t (LineNotText n) r a = next-refused text lines t (to_come next) n r a.0
next-stops text lines next t NoRoomForLine r a = tt

pub next-line : (lines next : LineReader) (o : Option Line) (line : Line) → o ≡ Some line → NextLine lines (Ok o) next → to_come lines ≡ read_line line ∷ to_come next
next-line lines next o line e a =
    (subst (λ (o : Option Line). NextLine lines (Ok o) next) e a).0

pub line-stops : (text : List ℕ) (lines : LineReader) (t new : Tables) (l : NumberedLine) (more : Lines) (stop : MpsStop) → IsReading text lines t → to_come lines ≡ l ∷ more → LinePassed l t (Err stop) new → StopsBy (IsLineFault text) stop
line-stops text lines t new l more (Fault f) r e p =
    subst (λ n. IsLineFault text n f.kind) (sym p.1) (next-fails text lines t l more f.kind r e p.0)
line-stops text lines t new l more OutOfMemory r e p = tt

pub no-line : (text : List ℕ) (lines next : LineReader) (t : Tables) (o : Option Line) (n : ℕ) → IsReading text lines t → o ≡ None → NextLine lines (Ok o) next → lines_in next ≡ lines_in lines → n ≡ next.number → IsLineFault text n NoEnd
no-line text lines next t o n r e a c i =
    let end = subst (λ (o : Option Line). NextLine lines (Ok o) next) e a in
    subst (λ n. IsLineFault text n NoEnd) (sym i) (nothing-left text lines next t r end.0 end.1 c)
