-- Lines none of which fails leave the tables sound, and so the facts that are made of them.
use Rattle.std.proofs.Common.{ℕ, ◌≤◌, ◌≡◌, refl, sym, ap, ◌∙◌, subst, arith, Bool, true, false, ◌&&◌, ◌||◌, not, List, [], ◌∷◌, ◌++◌, filter, length, Option, Some, None, cond}
use Rattle.std.specs.Bool.{MatchBool}
use Rattle.std.specs.List.{AllByRecursion, IsDistinct, list_any}
use Rattle.std.proofs.lemmas.List.{length-append}
use Rattle.std.proofs.lemmas.List.Folds.{list_any-append}
use Rattle.bz_lines.specs.FieldLists.{Fields as FieldList, field}
use Rattle.bz_lines.specs.FirstFault.{NoneFails, first_failing}
use Rattle.bz_lines.specs.NameLists.{is_among, with_name}
use Rattle.bz_lines.specs.NumberedLines.{NumberedLine}
use Rattle.bz_lines.proofs.FirstFaults.{first_failing-none, none_fails}
use Rattle.bz_facts.specs.declared.faults.MpsKind.TheVariants.{NotText}
use Rattle.bz_facts.specs.declared.records.Facts.{Facts}
use Rattle.bz_facts.specs.declared.records.Heading.{Heading}
use Rattle.bz_facts.specs.declared.records.Heading.TheVariants.{Name, ObjSense, Rows, Columns, Rhs, Ranges, Bounds, EndData}
use Rattle.bz_facts.specs.declared.records.RowType.{RowType}
use Rattle.bz_facts.specs.declared.tables.Begun.{Begun}
use Rattle.bz_facts.specs.declared.tables.Columns.{Columns as ColumnTable}
use Rattle.bz_facts.specs.declared.tables.Tables.{Tables}
use Rattle.bz_facts.specs.Headings.{is_end, is_it}
use Rattle.bz_facts.specs.LineFacts.{entries_on}
use Rattle.bz_facts.specs.LineSteps.{DataLineAdded, EntriesAdded, HeaderLineAdded, LineAdded, MarkerAdded, column_tests_by, data_tests_by, entry_tests_by, header_tests_by, is_out_of_order_by, line_tests_by, with_begun}
use Rattle.bz_facts.specs.LineTests.{is_counted, is_free, is_same_entry, is_same_row, marker_tests}
use Rattle.bz_facts.specs.SoundFacts.{AreSound, IsBoundAmong, IsEntryAmong, NeverFallFrom}
use Rattle.bz_facts.specs.TableFacts.{AreEmpty, AreTableFacts}
use Rattle.bz_facts.specs.Words.{is_marker}
use Rattle.bz_facts.proofs.LineAdding.{heading-data, heading-header}
use Rattle.bz_facts.proofs.ShortFields.{IsShort}
use Rattle.bz_facts.proofs.SoundLists.{not-none}
use Rattle.bz_facts.proofs.SoundTables.{SoundColumns, SoundGivens, SoundRows, bounds-more_columns, columns-ended, columns-more_rows, entries_pass, givens-more_rows, sound-bound, sound-entries, sound-given, sound-marker, sound-row}

pub record IsSound (t : Tables) : Type 0 where
  pub rows : SoundRows t.rows
  pub objective : t.headers.begun.columns ≡ true → list_any is_free t.rows.types ≡ true
  pub columns : SoundColumns (length t.rows.names) t.columns
  pub right_sides : SoundGivens (length t.rows.names) t.right_sides.givens
  pub ranges : SoundGivens (length t.rows.names) t.ranges.givens
  pub bounds : AllByRecursion (IsBoundAmong (length t.columns.names)) t.bounds.lines.items

-- Before any line.

apart : true ≡ false → ⊥
apart e = absurd cc

none_distinct : {X : Type 0} (same : X → X → Bool) → IsDistinct same []
unfolding IsDistinct
none_distinct same = tt

pub sound-start : (t : Tables) → AreEmpty t → IsSound t
sound-start t e = record {
  rows = record { types = ap length e.row_types ∙ sym (ap length e.row_names); few = subst (λ ts. length (filter is_counted ts) ≤ 2048) (sym e.row_types) (omega arith) };
  objective = λ h. absurd (apart (sym h ∙ ap (λ (b : Begun). b.columns) e.begun));
  columns = record {
    integers = ap length e.integers ∙ sym (ap length e.columns);
    few_columns = omega (arith, ap length e.columns);
    few_entries = omega (arith, ap length e.entries);
    entries = subst (AllByRecursion (IsEntryAmong (length t.columns.names) (length t.rows.names))) (sym e.entries) tt;
    in_order = subst (NeverFallFrom 0) (sym e.entries) tt;
    current = λ name i h. absurd (apart (sym i ∙ ap (λ ns. is_among ns name) e.columns));
    once = subst (IsDistinct is_same_entry) (sym e.entries) (none_distinct is_same_entry);
  };
  right_sides = subst (SoundGivens (length t.rows.names)) (sym e.right_sides) (record { all = tt; once = none_distinct is_same_row });
  ranges = subst (SoundGivens (length t.rows.names)) (sym e.ranges) (record { all = tt; once = none_distinct is_same_row });
  bounds = subst (AllByRecursion (IsBoundAmong (length t.columns.names))) (sym e.bounds) tt;
}

-- Headers.

header_passes : (t : Tables) (l : NumberedLine) → l.header ≡ true → first_failing (line_tests_by t l) ≡ None → NoneFails (header_tests_by t.headers t.sense t.columns.marked t.rows.types l.fields)
header_passes t l e f =
    let tests = header_tests_by t.headers t.sense t.columns.marked t.rows.types l.fields in
    (none_fails ((not l.text, NotText) ∷ tests) (ap (λ b. first_failing ((not l.text, NotText) ∷ cond b tests (data_tests_by t.headers.section t l.fields))) (sym e) ∙ f)).1

-- COLUMNS has begun only where there is an objective
objective_header : (this : Heading) (b : Begun) (types : List RowType) → (b.columns ≡ true → list_any is_free types ≡ true) → (is_it Columns (Some this) && not (list_any is_free types)) ≡ false → (with_begun b this).columns ≡ true → list_any is_free types ≡ true
objective_header Name b types o e h = o h
objective_header ObjSense b types o e h = o h
objective_header Rows b types o e h = o h
objective_header Columns b types o e h = not-none (list_any is_free types) e
objective_header Rhs b types o e h = o h
objective_header Ranges b types o e h = o h
objective_header Bounds b types o e h = o h
objective_header EndData b types o e h = o h

sound_header : (t new : Tables) (l : NumberedLine) → l.header ≡ true → IsSound t → first_failing (line_tests_by t l) ≡ None → HeaderLineAdded l.fields t new → IsSound new
sound_header t new l e s f a =
    let pass = header_passes t l e f in
    subst IsSound (sym a.others) (record {
      rows = s.rows;
      objective = λ h. objective_header a.header.this t.headers.begun t.rows.types s.objective (ap (λ o. is_it Columns o && not (list_any is_free t.rows.types)) (sym a.header.word) ∙ pass.1.1.1.1.1.1.0) (sym (ap (λ (b : Begun). b.columns) a.header.begun) ∙ h);
      columns = columns-ended (length t.rows.names) t.columns s.columns;
      right_sides = s.right_sides;
      ranges = s.ranges;
      bounds = s.bounds;
    })

-- Data lines.

data_passes : (t : Tables) (l : NumberedLine) → l.header ≡ false → first_failing (line_tests_by t l) ≡ None → first_failing (data_tests_by t.headers.section t l.fields) ≡ None
data_passes t l e f =
    let tests = data_tests_by t.headers.section t l.fields in
    first_failing-none tests (none_fails ((not l.text, NotText) ∷ tests) (ap (λ b. first_failing ((not l.text, NotText) ∷ cond b (header_tests_by t.headers t.sense t.columns.marked t.rows.types l.fields) tests)) (sym e) ∙ f)).1

or_left : (a b : Bool) → a ≡ true → (a || b) ≡ true
or_left true b e = refl
or_left false b e = absurd cc

still_free : (types more : List RowType) → list_any is_free types ≡ true → list_any is_free (types ++ more) ≡ true
still_free types more e = list_any-append is_free types more ∙ or_left (list_any is_free types) (list_any is_free more) e

-- a line of COLUMNS, which may be a marker
column_sound : (t : Tables) (new : ColumnTable) (fs : FieldList) (marker : Bool) → is_marker fs ≡ marker → AllByRecursion IsShort fs → IsSound t → first_failing (column_tests_by t.rows.names t.columns fs) ≡ None → MatchBool marker (MarkerAdded fs t.columns new) (EntriesAdded (field 0 fs) (entries_on t.rows.names t.columns.names fs) t.columns new) → SoundColumns (length t.rows.names) new
column_sound t new fs true m l s f a = sound-marker (length t.rows.names) fs t.columns new s.columns a
column_sound t new fs false m l s f a =
    sound-entries t.rows.names fs t.columns new m s.columns (entries_pass t.rows.names t.columns fs l (sym (ap (λ b. first_failing (cond b (marker_tests t.columns.marked (field 2 fs)) (entry_tests_by t.rows.names t.columns fs))) m) ∙ f)) a

one_more : (names : List (List ℕ)) (name : List ℕ) → length names ≤ length (with_name names name)
one_more names name = by (is_among names name)
  where
    by : (b : Bool) → length names ≤ length (cond b names (names ++ name ∷ []))
    by true = omega arith
    by false = omega (arith, length-append names (name ∷ []))

columns_grow : (t : Tables) (new : ColumnTable) (fs : FieldList) (marker : Bool) → MatchBool marker (MarkerAdded fs t.columns new) (EntriesAdded (field 0 fs) (entries_on t.rows.names t.columns.names fs) t.columns new) → length t.columns.names ≤ length new.names
columns_grow t new fs true a = omega (arith, ap length a.names)
columns_grow t new fs false a = omega (arith, ap length a.names, one_more t.columns.names (field 0 fs))

sound_data : (o : Option Heading) (t new : Tables) (line : ℕ) (fs : FieldList) → AllByRecursion IsShort fs → IsSound t → first_failing (data_tests_by o t fs) ≡ None → DataLineAdded o line fs t new → IsSound new
sound_data (Some ObjSense) t new line fs l s f a = subst IsSound (sym a) (record {
  rows = s.rows;
  objective = s.objective;
  columns = s.columns;
  right_sides = s.right_sides;
  ranges = s.ranges;
  bounds = s.bounds;
})
sound_data (Some Rows) t new line fs l s f a = subst IsSound (sym a.1) (record {
  rows = sound-row fs t.rows new.rows s.rows f a.0;
  objective = λ h. subst (λ ts. list_any is_free ts ≡ true) (sym a.0.types) (still_free t.rows.types _ (s.objective h));
  columns = columns-more_rows (length t.rows.names) (length new.rows.names) t.columns (omega (arith, ap length a.0.names, length-append t.rows.names (field 1 fs ∷ []))) s.columns;
  right_sides = givens-more_rows (length t.rows.names) (length new.rows.names) t.right_sides.givens (omega (arith, ap length a.0.names, length-append t.rows.names (field 1 fs ∷ []))) s.right_sides;
  ranges = givens-more_rows (length t.rows.names) (length new.rows.names) t.ranges.givens (omega (arith, ap length a.0.names, length-append t.rows.names (field 1 fs ∷ []))) s.ranges;
  bounds = s.bounds;
})
sound_data (Some Columns) t new line fs l s f a = subst IsSound (sym a.1) (record {
  rows = s.rows;
  objective = s.objective;
  columns = column_sound t new.columns fs (is_marker fs) refl l s f a.0;
  right_sides = s.right_sides;
  ranges = s.ranges;
  bounds = bounds-more_columns (length t.columns.names) (length new.columns.names) t.bounds.lines.items (columns_grow t new.columns fs (is_marker fs) a.0) s.bounds;
})
sound_data (Some Rhs) t new line fs l s f a = subst IsSound (sym a.1) (record {
  rows = s.rows;
  objective = s.objective;
  columns = s.columns;
  right_sides = sound-given t.rows.names fs t.right_sides new.right_sides l s.right_sides f a.0;
  ranges = s.ranges;
  bounds = s.bounds;
})
sound_data (Some Ranges) t new line fs l s f a = subst IsSound (sym a.1) (record {
  rows = s.rows;
  objective = s.objective;
  columns = s.columns;
  right_sides = s.right_sides;
  ranges = sound-given t.rows.names fs t.ranges new.ranges l s.ranges f a.0;
  bounds = s.bounds;
})
sound_data (Some Bounds) t new line fs l s f a = subst IsSound (sym a.1) (record {
  rows = s.rows;
  objective = s.objective;
  columns = s.columns;
  right_sides = s.right_sides;
  ranges = s.ranges;
  bounds = sound-bound t.columns.names line fs t.bounds new.bounds l s.bounds f a.0;
})
sound_data None t new line fs l s f a = absurd a
sound_data (Some Name) t new line fs l s f a = absurd a
sound_data (Some EndData) t new line fs l s f a = absurd a

by_header : (b : Bool) (t new : Tables) (l : NumberedLine) → l.header ≡ b → AllByRecursion IsShort l.fields → IsSound t → first_failing (line_tests_by t l) ≡ None → MatchBool b (HeaderLineAdded l.fields t new) (DataLineAdded t.headers.section l.number l.fields t new) → IsSound new
by_header true t new l e k s f a = sound_header t new l e s f a
by_header false t new l e k s f a =
    sound_data t.headers.section t new l.number l.fields k s (data_passes t l e f) a

pub sound-line : (t new : Tables) (l : NumberedLine) → AllByRecursion IsShort l.fields → IsSound t → first_failing (line_tests_by t l) ≡ None → LineAdded l t new → IsSound new
sound-line t new l k s f a = by_header l.header t new l refl k s f a

-- ENDATA, behind COLUMNS.

by_end : (this : Heading) (b : Begun) → is_it EndData (Some this) ≡ true → is_out_of_order_by b (Some this) ≡ false → (with_begun b this).columns ≡ true
by_end Name b e f = absurd cc
by_end ObjSense b e f = absurd cc
by_end Rows b e f = absurd cc
by_end Columns b e f = absurd cc
by_end Rhs b e f = absurd cc
by_end Ranges b e f = absurd cc
by_end Bounds b e f = absurd cc
by_end EndData b e f = not-none b.columns f

end_header : (b : Bool) (t new : Tables) (l : NumberedLine) → l.header ≡ b → is_end l ≡ true → first_failing (line_tests_by t l) ≡ None → MatchBool b (HeaderLineAdded l.fields t new) (DataLineAdded t.headers.section l.number l.fields t new) → new.headers.begun.columns ≡ true
end_header false t new l e i f a = absurd (apart (sym i ∙ ap (is_it EndData) (heading-data l e)))
end_header true t new l e i f a =
    let word = heading-header l e ∙ a.header.word in
    let pass = header_passes t l e f in
    ap (λ (b : Begun). b.columns) a.header.begun
    ∙ by_end a.header.this t.headers.begun (sym (ap (is_it EndData) word) ∙ i) (ap (is_out_of_order_by t.headers.begun) (sym a.header.word) ∙ pass.1.1.1.1.1.0)

-- the facts
facts_from : Tables → ℕ → Facts
facts_from t end = record {
  maximise = t.sense.maximise;
  row_names = t.rows.names;
  row_types = t.rows.types;
  columns = t.columns.names;
  integers = t.columns.integers.items;
  entries = t.columns.entries;
  right_sides = t.right_sides.givens;
  ranges = t.ranges.givens;
  bounds = t.bounds.lines.items;
  end = end;
}

same_facts : (t : Tables) (end : ℕ) (f : Facts) → AreTableFacts t end f → f ≡ facts_from t end
unfolding facts_from
same_facts t end f a = λ i. record {
  maximise = a.maximise i;
  row_names = a.row_names i;
  row_types = a.row_types i;
  columns = a.columns i;
  integers = a.integers i;
  entries = a.entries i;
  right_sides = a.right_sides i;
  ranges = a.ranges i;
  bounds = a.bounds i;
  end = a.last i;
}

are_sound : (t : Tables) (end : ℕ) → IsSound t → t.headers.begun.columns ≡ true → AreSound (facts_from t end)
unfolding facts_from
are_sound t end s h = record {
  types = s.rows.types;
  objective = s.objective h;
  integers = s.columns.integers;
  few_columns = s.columns.few_columns;
  few_rows = s.rows.few;
  few_entries = s.columns.few_entries;
  entries = s.columns.entries;
  in_order = s.columns.in_order;
  entries_once = s.columns.once;
  right_sides = s.right_sides.all;
  right_sides_once = s.right_sides.once;
  ranges = s.ranges.all;
  ranges_once = s.ranges.once;
  bounds = s.bounds;
}

pub sound-facts : (t new : Tables) (l : NumberedLine) (end : ℕ) (f : Facts) → IsSound new → is_end l ≡ true → first_failing (line_tests_by t l) ≡ None → LineAdded l t new → AreTableFacts new end f → AreSound f
sound-facts t new l end f s i p a k =
    subst AreSound (sym (same_facts new end f k)) (are_sound new end s (end_header l.header t new l refl i p a))
