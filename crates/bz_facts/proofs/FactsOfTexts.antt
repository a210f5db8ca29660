-- The facts of every text are sound: behind lines none of which fails there are tables that a reader would have.
use Rattle.std.proofs.Common.{ℕ, ◌+◌, ◌-◌, ◌<◌, ◌≤◌, ◌^◌, ◌≡◌, refl, sym, ap, ◌∙◌, subst, arith, Bool, true, false, ◌||◌, List, [], ◌∷◌, ◌++◌, length, bytes_eq, Option, Some, None, cond, option_to_list, append_assoc}
use Rattle.std.specs.Prelude.{is_none}
use Rattle.std.specs.Bool.{MatchBool}
use Rattle.std.specs.Global.{Vec}
use Rattle.std.specs.List.{AllByRecursion, list_any}
use Rattle.std.proofs.lemmas.List.{length-append}
use denote.RawPtr.{null_ptr}
use Rattle.bz_lines.specs.FieldLists.{Fields as FieldList, field}
use Rattle.bz_lines.specs.FirstFault.{NoLineFails, NoneFails, first_failing}
use Rattle.bz_lines.specs.NameLists.{is_among, with_name}
use Rattle.bz_lines.specs.NumberedLines.{NumberedLine, numbered_lines}
use Rattle.bz_lines.proofs.FirstFaults.{first_failing-none}
use Rattle.bz_facts.specs.declared.records.BoundLine.{BoundLine}
use Rattle.bz_facts.specs.declared.records.Facts.{Facts}
use Rattle.bz_facts.specs.declared.records.Heading.{Heading}
use Rattle.bz_facts.specs.declared.records.Heading.TheVariants.{Name, ObjSense, Rows, Columns, Rhs, Ranges, Bounds, EndData}
use Rattle.bz_facts.specs.declared.tables.Columns.{Columns as ColumnTable}
use Rattle.bz_facts.specs.declared.tables.Tables.{Tables}
use Rattle.bz_facts.specs.FactTexts.{AreFacts, IsFactsOf}
use Rattle.bz_facts.specs.Headings.{Lines, is_end, up_to_end}
use Rattle.bz_facts.specs.LineFacts.{bound_on, bound_set, entries_on, given_on, set_of}
use Rattle.bz_facts.specs.LineSteps.{BoundAdded, ColumnLineAdded, DataLineAdded, EntriesAdded, HeaderLineAdded, LineAdded, MarkerAdded, as_sets, data_tests_by, header_tests_by, line_tests_by, with_begun, with_header, with_word}
use Rattle.bz_facts.specs.LineTests.{line_tests}
use Rattle.bz_facts.specs.SoundFacts.{AreSound}
use Rattle.bz_facts.specs.TableFacts.{AreEmpty, AreTableFacts}
use Rattle.bz_facts.specs.TableNotes.{first_noted}
use Rattle.bz_facts.specs.Words.{bound_type, heading, is_marker, opening, row_type}
use Rattle.bz_facts.proofs.BetweenLines.{empty_holds}
use Rattle.bz_facts.proofs.FewLines.{few-bound, few-bounds, few-lines}
use Rattle.bz_facts.proofs.Held.{Holds}
use Rattle.bz_facts.proofs.LineHolding.{line-holds}
use Rattle.bz_facts.proofs.SameTests.{tests-same}
use Rattle.bz_facts.proofs.ShortFields.{IsShort, short-fields}
use Rattle.bz_facts.proofs.SoundReading.{IsSound, sound-facts, sound-line, sound-start}

-- Vectors with given items. Where they lie doesn't matter.

vec_of : {X : Type 0} (xs : List X) → length xs < 2 ^ 63 → Vec X
vec_of xs l = record {
  ptr = null_ptr;
  len = length xs;
  cap = length xs;
  alloc = record { memory = record { seal = tt } };
  items = xs;
  ok = (refl, omega arith);
  small = l;
}

-- the tables before any line
no_tables : Tables
no_tables = record {
  headers = record {
    section = None;
    begun = record { any = false; sense = false; rows = false; columns = false; rhs = false; ranges = false; bounds = false };
  };
  sense = record { maximise = false; told = false };
  rows = record { names = []; types = [] };
  columns = record { names = []; integers = vec_of [] (omega arith); entries = []; marked = false; current = None };
  right_sides = record { set = None; givens = [] };
  ranges = record { set = None; givens = [] };
  bounds = record { set = None; lines = vec_of [] (omega arith) };
}

no_tables_empty : AreEmpty no_tables
unfolding no_tables vec_of
no_tables_empty = record {
  section = refl;
  begun = refl;
  maximise = refl;
  told = refl;
  row_names = refl;
  row_types = refl;
  columns = refl;
  integers = refl;
  entries = refl;
  opened = refl;
  current = refl;
  right_set = refl;
  right_sides = refl;
  range_set = refl;
  ranges = refl;
  bound_set = refl;
  bounds = refl;
}

-- Behind one more line that passes its tests.

heading_there : (o : Option Heading) → is_none o ≡ false → (this : Heading) × (o ≡ Some this)
heading_there None e = absurd cc
heading_there (Some this) e = (this, refl)

header_next : (t : Tables) (fs : FieldList) → NoneFails (header_tests_by t.headers t.sense t.columns.marked t.rows.types fs) → (new : Tables) × HeaderLineAdded fs t new
header_next t fs h =
    let found = heading_there (heading (field 0 fs)) h.1.0 in (
      record t {
        headers = record { section = Some found.0; begun = with_begun t.headers.begun found.0 };
        sense = with_header t.sense fs;
        columns = record t.columns { current = None };
      },
      record { header = record { this = found.0; word = found.1; section = refl; begun = refl }; others = refl },
    )

marks_few : (b open_now : Bool) (marks : List Bool) → length marks ≤ 2048 → length (marks ++ cond b [] (open_now ∷ [])) < 2 ^ 63
marks_few true o marks l = omega (arith, length-append marks [])
marks_few false o marks l = omega (arith, length-append marks (o ∷ []))

column_next : (t : Tables) (fs : FieldList) (marker : Bool) → is_marker fs ≡ marker → IsSound t → (new : Tables) × (ColumnLineAdded t.rows.names fs t.columns new.columns × (new ≡ record t { columns = new.columns }))
unfolding vec_of
column_next t fs true m s =
    let new : ColumnTable = record t.columns { marked = bytes_eq (field 2 fs) opening; current = None } in (
      record t { columns = new },
      (subst (λ b. MatchBool b (MarkerAdded fs t.columns new) (EntriesAdded (field 0 fs) (entries_on t.rows.names t.columns.names fs) t.columns new)) (sym m) (record { names = refl; integers = refl; entries = refl; opened = refl; current = refl }), refl),
    )
column_next t fs false m s =
    let marks = t.columns.integers.items in
    let among = is_among t.columns.names (field 0 fs) in
    let new : ColumnTable = record {
      names = with_name t.columns.names (field 0 fs);
      integers = vec_of (marks ++ cond among [] (t.columns.marked ∷ [])) (marks_few among t.columns.marked marks (omega (arith, s.columns.integers, s.columns.few_columns)));
      entries = t.columns.entries ++ entries_on t.rows.names t.columns.names fs;
      marked = t.columns.marked;
      current = Some (field 0 fs);
    } in (
      record t { columns = new },
      (subst (λ b. MatchBool b (MarkerAdded fs t.columns new) (EntriesAdded (field 0 fs) (entries_on t.rows.names t.columns.names fs) t.columns new)) (sym m) (record { names = refl; integers = refl; entries = refl; opened = refl; current = refl }), refl),
    )

bound_next : (t : Tables) (line : ℕ) (fs : FieldList) (more : List BoundLine) → more ≡ bound_on t.columns.names (as_sets t.bounds.set) line (bound_type (field 0 fs)) fs → length more ≤ 1 → length t.bounds.lines.items < 2 ^ 63 - 1
    → (new : Tables) × (BoundAdded t.columns.names line fs t.bounds new.bounds × (new ≡ record t { bounds = new.bounds }))
unfolding vec_of
bound_next t line fs more is few l = (
  record t {
    bounds = record {
      set = first_noted t.bounds.set (bound_set (bound_type (field 0 fs)) fs);
      lines = vec_of (t.bounds.lines.items ++ more) (omega (arith, l, few, length-append t.bounds.lines.items more));
    };
  },
  (record { set = refl; lines = ap (λ ls. t.bounds.lines.items ++ ls) is }, refl),
)

data_next : (o : Option Heading) (t : Tables) (line : ℕ) (fs : FieldList) → length t.bounds.lines.items < 2 ^ 63 - 1 → IsSound t → first_failing (data_tests_by o t fs) ≡ None → (new : Tables) × DataLineAdded o line fs t new
unfolding vec_of
data_next None t line fs l s f = absurd cc
data_next (Some Name) t line fs l s f = absurd cc
data_next (Some EndData) t line fs l s f = absurd cc
data_next (Some ObjSense) t line fs l s f = (record t { sense = with_word t.sense (field 0 fs) }, refl)
data_next (Some Rows) t line fs l s f = (
  record t { rows = record { names = t.rows.names ++ field 1 fs ∷ []; types = t.rows.types ++ option_to_list (row_type (field 0 fs)) } },
  (record { names = refl; types = refl }, refl),
)
data_next (Some Columns) t line fs l s f = column_next t fs (is_marker fs) refl s
data_next (Some Rhs) t line fs l s f = (
  record t {
    right_sides = record {
      set = first_noted t.right_sides.set (set_of fs);
      givens = t.right_sides.givens ++ given_on t.rows.names (as_sets t.right_sides.set) fs;
    };
  },
  (record { set = refl; givens = refl }, refl),
)
data_next (Some Ranges) t line fs l s f = (
  record t {
    ranges = record {
      set = first_noted t.ranges.set (set_of fs);
      givens = t.ranges.givens ++ given_on t.rows.names (as_sets t.ranges.set) fs;
    };
  },
  (record { set = refl; givens = refl }, refl),
)
data_next (Some Bounds) t line fs l s f = bound_next t line fs _ refl (few-bound t.columns.names (as_sets t.bounds.set) line (bound_type (field 0 fs)) fs) l

line_next : (b : Bool) (t : Tables) (l : NumberedLine) → l.header ≡ b → length t.bounds.lines.items < 2 ^ 63 - 1 → IsSound t → NoneFails (line_tests_by t l) → (new : Tables) × LineAdded l t new
line_next true t l e few s h =
    let tests = header_tests_by t.headers t.sense t.columns.marked t.rows.types l.fields in
    let pass : NoneFails tests = subst (λ b. NoneFails (cond b tests (data_tests_by t.headers.section t l.fields))) e h.1 in
    let next = header_next t l.fields pass in
    (next.0, subst (λ b. MatchBool b (HeaderLineAdded l.fields t next.0) (DataLineAdded t.headers.section l.number l.fields t next.0)) (sym e) next.1)
line_next false t l e few s h =
    let tests = data_tests_by t.headers.section t l.fields in
    let pass : NoneFails tests = subst (λ b. NoneFails (cond b (header_tests_by t.headers t.sense t.columns.marked t.rows.types l.fields) tests)) e h.1 in
    let next = data_next t.headers.section t l.number l.fields few s (first_failing-none tests pass) in
    (next.0, subst (λ b. MatchBool b (HeaderLineAdded l.fields t next.0) (DataLineAdded t.headers.section l.number l.fields t next.0)) (sym e) next.1)

-- Behind all lines.

table_facts : (seen : Lines) (t : Tables) (f : Facts) → Holds seen t → AreFacts seen f → AreTableFacts t f.end f
table_facts seen t f h a = record {
  maximise = a.maximise ∙ sym h.sense.maximise;
  row_names = a.row_names ∙ sym h.rows.names;
  row_types = a.row_types ∙ sym h.rows.types;
  columns = a.columns ∙ sym h.columns.names;
  integers = a.integers ∙ sym h.columns.integers;
  entries = a.entries ∙ sym h.columns.entries;
  right_sides = a.right_sides ∙ sym h.right_sides.givens;
  ranges = a.ranges ∙ sym h.ranges.givens;
  bounds = a.bounds ∙ sym h.bounds.lines;
  last = refl;
}

-- the lines up to that of ENDATA, behind others that the tables hold
sound_behind : (before behind : Lines) (t : Tables) (f : Facts) → length before + length behind < 2 ^ 63 → Holds before t → IsSound t → AllByRecursion (λ l. AllByRecursion IsShort l.fields) behind → NoLineFails line_tests before (up_to_end behind) → list_any is_end (up_to_end behind) ≡ true → AreFacts (before ++ up_to_end behind) f → AreSound f
sound_behind before [] t f few h s k passed ended a = absurd cc
sound_behind before (l ∷ ls) t f few h s k passed ended a =
    by (is_end l) refl (λ t h s p i a. sound_behind (before ++ l ∷ []) ls t f (omega (arith, few, length-append before (l ∷ []))) h s k.1 p i a) passed.1 ended a
  where
    pass : NoneFails (line_tests_by t l)
    pass = subst NoneFails (sym (tests-same before t l h)) passed.0

    none : first_failing (line_tests_by t l) ≡ None
    none = first_failing-none (line_tests_by t l) pass

    next : (new : Tables) × LineAdded l t new
    next = line_next l.header t l refl (omega (arith, few-bounds before, ap length h.bounds.lines, few)) s pass

    holds : Holds (before ++ l ∷ []) next.0
    holds = line-holds before l t next.0 h none next.1

    sound : IsSound next.0
    sound = sound-line t next.0 l k.0 s none next.1

    by : (b : Bool) → is_end l ≡ b
        → ((t : Tables) → Holds (before ++ l ∷ []) t → IsSound t → NoLineFails line_tests (before ++ l ∷ []) (up_to_end ls) → list_any is_end (up_to_end ls) ≡ true → AreFacts ((before ++ l ∷ []) ++ up_to_end ls) f → AreSound f)
        → NoLineFails line_tests (before ++ l ∷ []) (cond b [] (up_to_end ls)) → (b || list_any is_end (cond b [] (up_to_end ls))) ≡ true → AreFacts (before ++ l ∷ cond b [] (up_to_end ls)) f → AreSound f
    by true e rest p i a =
        sound-facts t next.0 l f.end f sound e none next.1 (table_facts (before ++ l ∷ []) next.0 f holds a)
    by false e rest p i a =
        rest next.0 holds sound p i (subst (λ ls. AreFacts ls f) (sym (append_assoc before (l ∷ []) (up_to_end ls))) a)

pub facts_sound : (text : List ℕ) (f : Facts) → length text < 2 ^ 63 - 1 → IsFactsOf text f → AreSound f
facts_sound text f l h =
    sound_behind [] (numbered_lines text) no_tables f (omega (arith, few-lines text, l)) (empty_holds no_tables no_tables_empty) (sound-start no_tables no_tables_empty) (short-fields text (omega (arith, l))) h.lines h.ended h.facts
