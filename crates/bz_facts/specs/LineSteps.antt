-- The tests of a line and what it adds, by the tables of the lines before it alone.
use Rattle.std.specs.Prelude.{ℕ, Bool, true, false, ◌+◌, ◌≡◌, ◌==◌, ◌&&◌, ◌||◌, not, nat_le, nat_lt, is_none, bytes_eq, length, drop, flat_map, List, [], ◌∷◌, ◌++◌, Option, Some, None, option_to_list, Result, Ok, Err, if◌then◌else◌}
use Rattle.std.specs.Bool.{MatchBool}
use Rattle.std.specs.List.{list_any}
use Rattle.bz_lines.specs.FieldLists.{Fields as FieldList, field}
use Rattle.bz_lines.specs.FirstFault.{first_failing}
use Rattle.bz_lines.specs.NameLists.{is_among, with_name}
use Rattle.bz_lines.specs.NumberedLines.{NumberedLine}
use Rattle.bz_facts.specs.declared.faults.MpsKind.TheVariants.{DoubleEntry, Fields, Limit, MarkerOpen, NotText, NoObjective, Order, Section, SectionOut, Sense, SplitColumn}
use Rattle.bz_facts.specs.declared.faults.MpsStop.{MpsStop}
use Rattle.bz_facts.specs.declared.faults.MpsStop.TheVariants.{Fault, OutOfMemory}
use Rattle.bz_facts.specs.declared.records.Entry.{Entry}
use Rattle.bz_facts.specs.declared.records.Given.{Given}
use Rattle.bz_facts.specs.declared.records.Heading.{Heading}
use Rattle.bz_facts.specs.declared.records.Heading.TheVariants.{Name, ObjSense, Rows, Columns, Rhs, Ranges, Bounds, EndData}
use Rattle.bz_facts.specs.declared.pairs.Pairs.{Pairs}
use Rattle.bz_facts.specs.declared.records.RowType.{RowType}
use Rattle.bz_facts.specs.declared.tables.Begun.{Begun}
use Rattle.bz_facts.specs.declared.tables.BoundTable.{BoundTable}
use Rattle.bz_facts.specs.declared.tables.Columns.{Columns as ColumnTable}
use Rattle.bz_facts.specs.declared.tables.GivenTable.{GivenTable}
use Rattle.bz_facts.specs.declared.tables.Headers.{Headers}
use Rattle.bz_facts.specs.declared.tables.Rows.{Rows as RowTable}
use Rattle.bz_facts.specs.declared.tables.Sense.{Sense as SenseTable}
use Rattle.bz_facts.specs.declared.tables.Tables.{Tables}
use Rattle.bz_facts.specs.Headings.{is_end, is_it}
use Rattle.bz_facts.specs.LineFacts.{behind_set, bound_on, bound_set, entries_on, given_on, is_own, pairs, set_of}
use Rattle.bz_facts.specs.LineTests.{Tests as TestList, bound_tests_of, has_wrong_sense, is_free, is_past_limit, is_same_entry, is_too_long, marker_tests, own_given_tests, pair_tests, repeats, row_tests, sense_tests}
use Rattle.bz_facts.specs.TableNotes.{first_noted, is_noted}
use Rattle.bz_facts.specs.Words.{bound_type, heading, is_greater_word, is_left_out, is_marker, opening, row_type}

-- Headers.

-- the section stands too early, twice or too late where these have begun
abbrev pub is_misplaced_by : Begun → Heading → Bool
is_misplaced_by b Name = b.any
is_misplaced_by b ObjSense = b.sense || b.rows
is_misplaced_by b Rows = b.rows
is_misplaced_by b Columns = not b.rows || b.columns
is_misplaced_by b Rhs = not b.columns || b.rhs
is_misplaced_by b Ranges = not b.columns || b.ranges
is_misplaced_by b Bounds = not b.columns || b.bounds
is_misplaced_by b EndData = not b.columns

abbrev pub is_out_of_order_by : Begun → Option Heading → Bool
is_out_of_order_by b None = false
is_out_of_order_by b (Some h) = is_misplaced_by b h

-- the sections that have begun once this one has too
abbrev pub with_begun : Begun → Heading → Begun
with_begun b Name = record b { any = true }
with_begun b ObjSense = record b { any = true; sense = true }
with_begun b Rows = record b { any = true; rows = true }
with_begun b Columns = record b { any = true; columns = true }
with_begun b Rhs = record b { any = true; rhs = true }
with_begun b Ranges = record b { any = true; ranges = true }
with_begun b Bounds = record b { any = true; bounds = true }
with_begun b EndData = record b { any = true }

-- OBJSENSE stands last, and its word is still to come
abbrev pub is_waiting : Option Heading → SenseTable → Bool
is_waiting section s = is_it ObjSense section && not s.told

-- the tests of a header, where the marker is open or not, and these are what the rows say
abbrev pub header_tests_by : Headers → SenseTable → Bool → List RowType → FieldList → TestList
header_tests_by hs s open_now types fs =
    let h = heading (field 0 fs) in
    (is_left_out (field 0 fs), SectionOut)
    ∷ (is_none h, Section)
    ∷ (is_too_long h (length fs), Fields)
    ∷ (has_wrong_sense h fs || is_waiting hs.section s, Sense)
    ∷ (is_it Columns hs.section && open_now, MarkerOpen)
    ∷ (is_out_of_order_by hs.begun h, Order)
    ∷ (is_it Columns h && not (list_any is_free types), NoObjective)
    ∷ []

-- the headers and one more
pub record HeaderAdded (fs : FieldList) (old new : Headers) : Type 0 where
  pub this : Heading
  pub word : heading (field 0 fs) ≡ Some this
  pub section : new.section ≡ Some this
  pub begun : new.begun ≡ with_begun old.begun this

-- OBJSENSE.

-- the word of OBJSENSE is this
abbrev pub with_word : SenseTable → List ℕ → SenseTable
with_word s word = record { maximise = s.maximise || is_greater_word word; told = true }

-- the header's second field, where it is OBJSENSE and has one
abbrev pub with_header : SenseTable → FieldList → SenseTable
with_header s fs = if is_it ObjSense (heading (field 0 fs)) && nat_lt 1 (length fs) then with_word s (field 1 fs) else s

abbrev pub sense_tests_by : SenseTable → FieldList → TestList
sense_tests_by s fs = (s.told, Section) ∷ sense_tests fs

-- ROWS.

pub record RowAdded (fs : FieldList) (old new : RowTable) : Type 0 where
  pub names : new.names ≡ old.names ++ field 1 fs ∷ []
  pub types : new.types ≡ old.types ++ option_to_list (row_type (field 0 fs))

-- COLUMNS.

-- the tests of entries behind those of the tables, where the rows have these names
abbrev pub entry_tests_by : List (List ℕ) → ColumnTable → FieldList → TestList
entry_tests_by rows t fs =
    let more = entries_on rows t.names fs in
    (not ((length fs == 3) || (length fs == 5)), Fields)
    ∷ (is_among t.names (field 0 fs) && not (is_noted t.current (field 0 fs)), SplitColumn)
    ∷ flat_map (pair_tests rows) (pairs (drop 1 fs))
    ++ (repeats is_same_entry t.entries more, DoubleEntry)
    ∷ (is_past_limit t.names t.entries fs more, Limit)
    ∷ []

abbrev pub column_tests_by : List (List ℕ) → ColumnTable → FieldList → TestList
column_tests_by rows t fs = if is_marker fs then marker_tests t.marked (field 2 fs) else entry_tests_by rows t fs

-- a marker line
pub record MarkerAdded (fs : FieldList) (old new : ColumnTable) : Type 0 where
  pub names : new.names ≡ old.names
  pub integers : new.integers.items ≡ old.integers.items
  pub entries : new.entries ≡ old.entries
  pub opened : new.marked ≡ bytes_eq (field 2 fs) opening
  pub current : new.current ≡ None

-- the tests of a column's entries that come last: doubles, and then the limit
abbrev pub last_entry_tests : ColumnTable → List ℕ → List Entry → TestList
last_entry_tests t name more =
    (repeats is_same_entry t.entries more, DoubleEntry)
    ∷ ((not (is_among t.names name) && nat_le 2048 (length t.names)) || nat_lt 65536 (length t.entries + length more), Limit)
    ∷ []

-- entries of a column, which may be new
pub record EntriesAdded (name : List ℕ) (more : List Entry) (old new : ColumnTable) : Type 0 where
  pub names : new.names ≡ with_name old.names name
  pub integers : new.integers.items ≡ old.integers.items ++ (if is_among old.names name then [] else old.marked ∷ [])
  pub entries : new.entries ≡ old.entries ++ more
  pub opened : new.marked ≡ old.marked
  pub current : new.current ≡ Some name

abbrev pub ColumnLineAdded : List (List ℕ) → FieldList → ColumnTable → ColumnTable → Type 0
ColumnLineAdded rows fs old new = MatchBool (is_marker fs) (MarkerAdded fs old new) (EntriesAdded (field 0 fs) (entries_on rows old.names fs) old new)

-- RHS and RANGES.

-- the set of a section's lines, as the list that stands for it in the tests
abbrev pub as_sets : Option (List ℕ) → List (List ℕ)
as_sets set = option_to_list set

abbrev pub given_tests_by : List (List ℕ) → GivenTable → FieldList → TestList
given_tests_by rows t fs =
    (not (nat_le 2 (length fs) && nat_le (length fs) 5), Fields)
    ∷ (if is_own (as_sets t.set) (set_of fs) then own_given_tests rows t.givens (given_on rows (as_sets t.set) fs) (behind_set fs) else [])

pub record GivenAdded (rows : List (List ℕ)) (fs : FieldList) (old new : GivenTable) : Type 0 where
  pub set : new.set ≡ first_noted old.set (set_of fs)
  pub givens : new.givens ≡ old.givens ++ given_on rows (as_sets old.set) fs

-- BOUNDS.

abbrev pub bound_tests_by : List (List ℕ) → BoundTable → FieldList → TestList
bound_tests_by columns t fs = bound_tests_of columns (as_sets t.set) (bound_type (field 0 fs)) fs

pub record BoundAdded (columns : List (List ℕ)) (line : ℕ) (fs : FieldList) (old new : BoundTable) : Type 0 where
  pub set : new.set ≡ first_noted old.set (bound_set (bound_type (field 0 fs)) fs)
  pub lines : new.lines.items ≡ old.lines.items ++ bound_on columns (as_sets old.set) line (bound_type (field 0 fs)) fs

-- Pairs of a row and a number.

-- what was read of one or two pairs
abbrev pub pairs_read : Pairs → List Given
pairs_read p = p.first ∷ option_to_list p.second

-- an entry of the column, by the row and the number
abbrev pub entry_in : ℕ → Given → Entry
entry_in column g = record { column = column; row = g.row; number = g.number }

-- All lines.

-- the tests of a data line in a section
abbrev pub data_tests_by : Option Heading → Tables → FieldList → TestList
data_tests_by (Some ObjSense) t fs = sense_tests_by t.sense fs
data_tests_by (Some Rows) t fs = row_tests t.rows.names t.rows.types fs
data_tests_by (Some Columns) t fs = column_tests_by t.rows.names t.columns fs
data_tests_by (Some Rhs) t fs = given_tests_by t.rows.names t.right_sides fs
data_tests_by (Some Ranges) t fs = given_tests_by t.rows.names t.ranges fs
data_tests_by (Some Bounds) t fs = bound_tests_by t.columns.names t.bounds fs
data_tests_by _ t fs = (true, Section) ∷ []

-- the tests of a line
abbrev pub line_tests_by : Tables → NumberedLine → TestList
line_tests_by t l =
    (not l.text, NotText)
    ∷ (if l.header then header_tests_by t.headers t.sense t.columns.marked t.rows.types l.fields else data_tests_by t.headers.section t l.fields)

-- a header
pub record HeaderLineAdded (fs : FieldList) (old new : Tables) : Type 0 where
  pub header : HeaderAdded fs old.headers new.headers
  pub others : new ≡ record old {
    headers = new.headers;
    sense = with_header old.sense fs;
    columns = record old.columns { current = None };
  }

-- a data line in a section, with its number
abbrev pub DataLineAdded : Option Heading → ℕ → FieldList → Tables → Tables → Type 0
DataLineAdded (Some ObjSense) line fs old new = new ≡ record old { sense = with_word old.sense (field 0 fs) }
DataLineAdded (Some Rows) line fs old new = RowAdded fs old.rows new.rows × (new ≡ record old { rows = new.rows })
DataLineAdded (Some Columns) line fs old new =
    ColumnLineAdded old.rows.names fs old.columns new.columns × (new ≡ record old { columns = new.columns })
DataLineAdded (Some Rhs) line fs old new =
    GivenAdded old.rows.names fs old.right_sides new.right_sides × (new ≡ record old { right_sides = new.right_sides })
DataLineAdded (Some Ranges) line fs old new =
    GivenAdded old.rows.names fs old.ranges new.ranges × (new ≡ record old { ranges = new.ranges })
DataLineAdded (Some Bounds) line fs old new =
    BoundAdded old.columns.names line fs old.bounds new.bounds × (new ≡ record old { bounds = new.bounds })
DataLineAdded _ line fs old new = ⊥

-- a line
abbrev pub LineAdded : NumberedLine → Tables → Tables → Type 0
LineAdded l old new =
    MatchBool l.header (HeaderLineAdded l.fields old new) (DataLineAdded old.headers.section l.number l.fields old new)

-- What the reader of a line answers: whether it is that of ENDATA, where no test fails and the line is added, or its fault.
abbrev pub LinePassed : NumberedLine → Tables → Result Bool MpsStop → Tables → Type 0
LinePassed l old (Ok last) new = (first_failing (line_tests_by old l) ≡ None) × LineAdded l old new × (last ≡ is_end l)
LinePassed l old (Err (Fault f)) new = (first_failing (line_tests_by old l) ≡ Some f.kind) × (f.line ≡ l.number)
LinePassed l old (Err OutOfMemory) new = Unit {0}
