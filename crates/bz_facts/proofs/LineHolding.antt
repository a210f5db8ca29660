-- A line that passes its tests is added to the tables, which then hold the facts with its own.
use Rattle.std.proofs.Common.{◌≡◌, refl, sym, ap, ◌∙◌, subst, Bool, true, false, not, [], ◌∷◌, ◌++◌, length, Option, Some, None, cond}
use Rattle.std.specs.Bool.{MatchBool}
use Rattle.bz_lines.specs.FieldLists.{field}
use Rattle.bz_lines.specs.FirstFault.{NoneFails, first_failing}
use Rattle.bz_lines.specs.NumberedLines.{NumberedLine}
use Rattle.bz_lines.proofs.FirstFaults.{none_fails}
use Rattle.bz_facts.specs.declared.faults.MpsKind.TheVariants.{NotText}
use Rattle.bz_facts.specs.declared.records.Heading.{Heading}
use Rattle.bz_facts.specs.declared.records.Heading.TheVariants.{Name, ObjSense, Rows, Columns, Rhs, Ranges, Bounds, EndData}
use Rattle.bz_facts.specs.declared.tables.Tables.{Tables}
use Rattle.bz_facts.specs.Headings.{Lines, is_it, section}
use Rattle.bz_facts.specs.LineFacts.{entries_on}
use Rattle.bz_facts.specs.LineSteps.{DataLineAdded, EntriesAdded, HeaderLineAdded, LineAdded, MarkerAdded, data_tests_by, header_tests_by, line_tests_by}
use Rattle.bz_facts.specs.LineTests.{is_too_long}
use Rattle.bz_facts.specs.Words.{heading, is_marker}
use Rattle.bz_facts.proofs.Held.{Holds, HoldsColumns}
use Rattle.bz_facts.proofs.LineAdding.{acts-data, acts-header, bounds-added, bounds-stay, columns-entries, columns-header, columns-marker, columns-stay, given-added, given-stay, headers-added, headers-stay, rows-added, rows-stay, sense-header, sense-stays, sense-told}

-- a header that passes isn't too long
not_long : (t : Tables) (l : NumberedLine) (h : Heading) → l.header ≡ true → heading (field 0 l.fields) ≡ Some h → first_failing (line_tests_by t l) ≡ None → is_too_long (Some h) (length l.fields) ≡ false
not_long t l h e w f =
    let tests = header_tests_by t.headers t.sense t.columns.marked t.rows.types l.fields in
    let pass : NoneFails ((not l.text, NotText) ∷ tests) =
    none_fails ((not l.text, NotText) ∷ tests) (ap (λ b. first_failing ((not l.text, NotText) ∷ cond b tests (data_tests_by t.headers.section t l.fields))) (sym e) ∙ f) in
    ap (λ o. is_too_long o (length l.fields)) (sym w) ∙ pass.1.1.1.0

header_holds : (seen : Lines) (l : NumberedLine) (old new : Tables) → l.header ≡ true → Holds seen old → first_failing (line_tests_by old l) ≡ None → HeaderLineAdded l.fields old new → Holds (seen ++ l ∷ []) new
header_holds seen l old new e h f a = subst (Holds (seen ++ l ∷ [])) (sym a.others) (record {
  headers = headers-added seen l old.headers new.headers e h.headers a.header;
  sense = sense-header seen l old.sense a.header.this e a.header.word (not_long old l a.header.this e a.header.word f) h.sense;
  rows = rows-stay seen l old.rows (acts-header Rows seen l e) h.rows;
  columns = columns-header seen l old.columns e h.columns;
  right_sides = given-stay Rhs seen l old.right_sides (acts-header Rhs seen l e) h.right_sides;
  ranges = given-stay Ranges seen l old.ranges (acts-header Ranges seen l e) h.ranges;
  bounds = bounds-stay seen l old.bounds (acts-header Bounds seen l e) h.bounds;
})

column_line : (seen : Lines) (l : NumberedLine) (old new : Tables) (marker : Bool) → is_marker l.fields ≡ marker → l.header ≡ false → section seen ≡ Some Columns → Holds seen old → MatchBool marker (MarkerAdded l.fields old.columns new.columns) (EntriesAdded (field 0 l.fields) (entries_on old.rows.names old.columns.names l.fields) old.columns new.columns) → HoldsColumns (seen ++ l ∷ []) new.columns
column_line seen l old new true m e s h a =
    columns-marker seen l old.columns new.columns e (acts-data Columns seen l (Some Columns) e s) m h.columns a
column_line seen l old new false m e s h a =
    columns-entries seen l old.rows.names old.columns new.columns e (acts-data Columns seen l (Some Columns) e s) m h.rows.names h.columns a

data_holds : (o : Option Heading) (seen : Lines) (l : NumberedLine) (old new : Tables) → section seen ≡ o → l.header ≡ false → Holds seen old → DataLineAdded o l.number l.fields old new → Holds (seen ++ l ∷ []) new
data_holds (Some ObjSense) seen l old new s e h a = subst (Holds (seen ++ l ∷ [])) (sym a) (record {
  headers = headers-stay seen l old.headers e h.headers;
  sense = sense-told seen l old.sense e (ap (is_it ObjSense) s) h.sense;
  rows = rows-stay seen l old.rows (acts-data Rows seen l (Some ObjSense) e s) h.rows;
  columns = columns-stay seen l old.columns e (ap (is_it Columns) s) h.columns;
  right_sides = given-stay Rhs seen l old.right_sides (acts-data Rhs seen l (Some ObjSense) e s) h.right_sides;
  ranges = given-stay Ranges seen l old.ranges (acts-data Ranges seen l (Some ObjSense) e s) h.ranges;
  bounds = bounds-stay seen l old.bounds (acts-data Bounds seen l (Some ObjSense) e s) h.bounds;
})
data_holds (Some Rows) seen l old new s e h a = subst (Holds (seen ++ l ∷ [])) (sym a.1) (record {
  headers = headers-stay seen l old.headers e h.headers;
  sense = sense-stays seen l old.sense e (ap (is_it ObjSense) s) h.sense;
  rows = rows-added seen l old.rows new.rows (acts-data Rows seen l (Some Rows) e s) h.rows a.0;
  columns = columns-stay seen l old.columns e (ap (is_it Columns) s) h.columns;
  right_sides = given-stay Rhs seen l old.right_sides (acts-data Rhs seen l (Some Rows) e s) h.right_sides;
  ranges = given-stay Ranges seen l old.ranges (acts-data Ranges seen l (Some Rows) e s) h.ranges;
  bounds = bounds-stay seen l old.bounds (acts-data Bounds seen l (Some Rows) e s) h.bounds;
})
data_holds (Some Columns) seen l old new s e h a = subst (Holds (seen ++ l ∷ [])) (sym a.1) (record {
  headers = headers-stay seen l old.headers e h.headers;
  sense = sense-stays seen l old.sense e (ap (is_it ObjSense) s) h.sense;
  rows = rows-stay seen l old.rows (acts-data Rows seen l (Some Columns) e s) h.rows;
  columns = column_line seen l old new (is_marker l.fields) refl e s h a.0;
  right_sides = given-stay Rhs seen l old.right_sides (acts-data Rhs seen l (Some Columns) e s) h.right_sides;
  ranges = given-stay Ranges seen l old.ranges (acts-data Ranges seen l (Some Columns) e s) h.ranges;
  bounds = bounds-stay seen l old.bounds (acts-data Bounds seen l (Some Columns) e s) h.bounds;
})
data_holds (Some Rhs) seen l old new s e h a = subst (Holds (seen ++ l ∷ [])) (sym a.1) (record {
  headers = headers-stay seen l old.headers e h.headers;
  sense = sense-stays seen l old.sense e (ap (is_it ObjSense) s) h.sense;
  rows = rows-stay seen l old.rows (acts-data Rows seen l (Some Rhs) e s) h.rows;
  columns = columns-stay seen l old.columns e (ap (is_it Columns) s) h.columns;
  right_sides = given-added Rhs seen l old.rows.names old.right_sides new.right_sides (acts-data Rhs seen l (Some Rhs) e s) h.rows.names h.right_sides a.0;
  ranges = given-stay Ranges seen l old.ranges (acts-data Ranges seen l (Some Rhs) e s) h.ranges;
  bounds = bounds-stay seen l old.bounds (acts-data Bounds seen l (Some Rhs) e s) h.bounds;
})
data_holds (Some Ranges) seen l old new s e h a = subst (Holds (seen ++ l ∷ [])) (sym a.1) (record {
  headers = headers-stay seen l old.headers e h.headers;
  sense = sense-stays seen l old.sense e (ap (is_it ObjSense) s) h.sense;
  rows = rows-stay seen l old.rows (acts-data Rows seen l (Some Ranges) e s) h.rows;
  columns = columns-stay seen l old.columns e (ap (is_it Columns) s) h.columns;
  right_sides = given-stay Rhs seen l old.right_sides (acts-data Rhs seen l (Some Ranges) e s) h.right_sides;
  ranges = given-added Ranges seen l old.rows.names old.ranges new.ranges (acts-data Ranges seen l (Some Ranges) e s) h.rows.names h.ranges a.0;
  bounds = bounds-stay seen l old.bounds (acts-data Bounds seen l (Some Ranges) e s) h.bounds;
})
data_holds (Some Bounds) seen l old new s e h a = subst (Holds (seen ++ l ∷ [])) (sym a.1) (record {
  headers = headers-stay seen l old.headers e h.headers;
  sense = sense-stays seen l old.sense e (ap (is_it ObjSense) s) h.sense;
  rows = rows-stay seen l old.rows (acts-data Rows seen l (Some Bounds) e s) h.rows;
  columns = columns-stay seen l old.columns e (ap (is_it Columns) s) h.columns;
  right_sides = given-stay Rhs seen l old.right_sides (acts-data Rhs seen l (Some Bounds) e s) h.right_sides;
  ranges = given-stay Ranges seen l old.ranges (acts-data Ranges seen l (Some Bounds) e s) h.ranges;
  bounds = bounds-added seen l old.columns.names old.bounds new.bounds (acts-data Bounds seen l (Some Bounds) e s) h.columns.names h.bounds a.0;
})
data_holds None seen l old new s e h a = absurd a
data_holds (Some Name) seen l old new s e h a = absurd a
data_holds (Some EndData) seen l old new s e h a = absurd a

by_header : (b : Bool) (seen : Lines) (l : NumberedLine) (old new : Tables) → l.header ≡ b → Holds seen old → first_failing (line_tests_by old l) ≡ None → MatchBool b (HeaderLineAdded l.fields old new) (DataLineAdded old.headers.section l.number l.fields old new) → Holds (seen ++ l ∷ []) new
by_header true seen l old new e h f a = header_holds seen l old new e h f a
by_header false seen l old new e h f a =
    data_holds old.headers.section seen l old new (sym h.headers.section) e h a

pub line-holds : (seen : Lines) (l : NumberedLine) (old new : Tables) → Holds seen old → first_failing (line_tests_by old l) ≡ None → LineAdded l old new → Holds (seen ++ l ∷ []) new
line-holds seen l old new h f a = by_header l.header seen l old new refl h f a
