-- The tests of each line of a model's text by the lines before it, in the order in which they are made.
use Rattle.std.specs.Prelude.{ℕ, Bool, true, false, ◌+◌, ◌==◌, ◌&&◌, ◌||◌, not, nat_le, nat_lt, is_none, length, drop, filter, bytes_eq, List, [], ◌∷◌, ◌++◌, Option, Some, None, flat_map, if◌then◌else◌}
use Rattle.std.specs.List.{last_or, list_any}
use Rattle.bz_lines.specs.FieldLists.{Fields as FieldList, field}
use Rattle.bz_lines.specs.NameLists.{is_among}
use Rattle.bz_lines.specs.NumberedLines.{NumberedLine}
use Rattle.bz_num.specs.declared.decimal.Dec.{Dec}
use Rattle.bz_facts.specs.declared.faults.MpsKind.{MpsKind}
use Rattle.bz_facts.specs.declared.faults.MpsKind.TheVariants.{Section, Order, NoObjective, RowKind, DoubleName, UnknownRow, UnknownColumn, DoubleEntry, Number, TooWide, Fields, Marker, MarkerOpen, BoundKind, NotText, Limit, Sense, SplitColumn, SectionOut}
use Rattle.bz_facts.specs.declared.records.BoundType.{BoundType}
use Rattle.bz_facts.specs.declared.records.BoundType.TheVariants.{Up, Lo, Fx, Li, Ui}
use Rattle.bz_facts.specs.declared.records.Entry.{Entry}
use Rattle.bz_facts.specs.declared.records.Given.{Given}
use Rattle.bz_facts.specs.declared.records.Heading.{Heading}
use Rattle.bz_facts.specs.declared.records.Heading.TheVariants.{Name, ObjSense, Rows, Columns, Rhs, Ranges, Bounds, EndData}
use Rattle.bz_facts.specs.declared.records.RowType.{RowType}
use Rattle.bz_facts.specs.declared.records.RowType.TheVariants.{Free, AtMost, AtLeast, Equal}
use Rattle.bz_facts.specs.Headings.{Lines, has, headings, is_in, is_it, section, word}
use Rattle.bz_facts.specs.LineFacts.{behind_bound_set, behind_set, bound_set, bound_sets, columns, begins_column, entries, entries_on, given, given_on, is_open, is_own, number_of, pairs, row_names, row_types, sense_words, set_of, sets}
use Rattle.bz_facts.specs.Spellings.{is_below_zero, is_infinite, is_no_number, is_too_wide, spelled}
use Rattle.bz_facts.specs.Words.{bound_type, closing, has_number, heading, is_left_out, is_marker, is_sense_word, opening, row_type}

-- Tests, each of whether it fails and of the fault's kind where it does.
abbrev pub Tests : Type 0
Tests = List (Bool × MpsKind)

-- Headers.

-- more fields than the header may have: NAME any number, OBJSENSE two, every other one
abbrev pub is_too_long : Option Heading → ℕ → Bool
is_too_long (Some Name) n = false
is_too_long (Some ObjSense) n = nat_lt 2 n
is_too_long _ n = nat_lt 1 n

-- OBJSENSE with another second field than its words
abbrev pub has_wrong_sense : Option Heading → FieldList → Bool
has_wrong_sense h fs = is_it ObjSense h && (nat_lt 1 (length fs) && not (is_sense_word (field 1 fs)))

-- OBJSENSE stands last, and its word is still to come
abbrev pub waits_for_sense : Lines → Bool
waits_for_sense seen = is_in ObjSense seen && (length (sense_words seen) == 0)

-- the section stands too early, twice or too late behind these
abbrev pub is_misplaced : List Heading → Heading → Bool
is_misplaced before Name = nat_lt 0 (length before)
is_misplaced before ObjSense = has ObjSense before || has Rows before
is_misplaced before Rows = has Rows before
is_misplaced before Columns = not (has Rows before) || has Columns before
is_misplaced before Rhs = not (has Columns before) || has Rhs before
is_misplaced before Ranges = not (has Columns before) || has Ranges before
is_misplaced before Bounds = not (has Columns before) || has Bounds before
is_misplaced before EndData = not (has Columns before)

abbrev pub is_out_of_order : List Heading → Option Heading → Bool
is_out_of_order before None = false
is_out_of_order before (Some h) = is_misplaced before h

-- a row of kind N
abbrev pub is_free : RowType → Bool
is_free Free = true
is_free AtMost = false
is_free AtLeast = false
is_free Equal = false

abbrev pub lacks_objective : Lines → Option Heading → Bool
lacks_objective seen h = is_it Columns h && not (list_any is_free (row_types seen))

abbrev pub header_tests : Lines → FieldList → Tests
header_tests seen fs =
    let h = heading (field 0 fs) in
    (is_left_out (field 0 fs), SectionOut)
    ∷ (is_none h, Section)
    ∷ (is_too_long h (length fs), Fields)
    ∷ (has_wrong_sense h fs || waits_for_sense seen, Sense)
    ∷ (is_in Columns seen && is_open seen, MarkerOpen)
    ∷ (is_out_of_order (headings seen) h, Order)
    ∷ (lacks_objective seen h, NoObjective)
    ∷ []

-- What data lines have in common.

-- a decimal within the limits
abbrev pub number_tests : List ℕ → Tests
number_tests digits = (is_no_number (spelled digits), Number) ∷ (is_too_wide (spelled digits), TooWide) ∷ []

-- the name of a row, and a number
abbrev pub pair_tests : List (List ℕ) → List ℕ × List ℕ → Tests
pair_tests rows p = (not (is_among rows p.0), UnknownRow) ∷ number_tests p.1

-- one of the new ones is among the old, or comes twice
abbrev pub repeats : {X : Type 0} → (X → X → Bool) → List X → List X → Bool
repeats same old [] = false
repeats same old (x ∷ xs) = list_any (same x) old || repeats same (old ++ x ∷ []) xs

-- OBJSENSE.

abbrev pub sense_tests : FieldList → Tests
sense_tests fs = (not (length fs == 1), Fields) ∷ (not (is_sense_word (field 0 fs)), Sense) ∷ []

-- ROWS.

-- a row that counts for the limit
abbrev pub is_counted : RowType → Bool
is_counted t = not (is_free t)

abbrev pub is_row_past_limit : List RowType → Option RowType → Bool
is_row_past_limit before None = false
is_row_past_limit before (Some t) = is_counted t && nat_le 2048 (length (filter is_counted before))

abbrev pub row_tests : List (List ℕ) → List RowType → FieldList → Tests
row_tests names types fs =
    (not (length fs == 2), Fields)
    ∷ (is_none (row_type (field 0 fs)), RowKind)
    ∷ (is_among names (field 1 fs), DoubleName)
    ∷ (is_row_past_limit types (row_type (field 0 fs)), Limit)
    ∷ []

-- COLUMNS.

abbrev pub marker_tests : Bool → List ℕ → Tests
marker_tests open_now word =
    (not (is_among (opening ∷ closing ∷ []) word), Marker)
    ∷ (bytes_eq word (if open_now then opening else closing), MarkerOpen)
    ∷ []

-- the line before is one of the same column
abbrev pub goes_on : Option NumberedLine → List ℕ → Bool
goes_on None name = false
goes_on (Some l) name = not l.header && (not (is_marker l.fields) && bytes_eq (field 0 l.fields) name)

-- the column comes again after another one or a marker
abbrev pub is_split : Lines → List ℕ → Bool
is_split seen name = is_among (columns seen) name && not (goes_on (last_or None seen) name)

-- the same column and the same row
abbrev pub is_same_entry : Entry → Entry → Bool
is_same_entry a b = (a.column == b.column) && (a.row == b.row)

-- one column or one entry too many, behind these
abbrev pub is_past_limit : List (List ℕ) → List Entry → FieldList → List Entry → Bool
is_past_limit names before fs more =
    (begins_column names fs && nat_le 2048 (length names)) || nat_lt 65536 (length before + length more)

abbrev pub entry_tests : Lines → FieldList → Tests
entry_tests seen fs =
    let more = entries_on (row_names seen) (columns seen) fs in
    (not ((length fs == 3) || (length fs == 5)), Fields)
    ∷ (is_split seen (field 0 fs), SplitColumn)
    ∷ flat_map (pair_tests (row_names seen)) (pairs (drop 1 fs))
    ++ (repeats is_same_entry (entries seen) more, DoubleEntry)
    ∷ (is_past_limit (columns seen) (entries seen) fs more, Limit)
    ∷ []

abbrev pub column_tests : Lines → FieldList → Tests
column_tests seen fs = if is_marker fs then marker_tests (is_open seen) (field 2 fs) else entry_tests seen fs

-- RHS and RANGES.

abbrev pub is_same_row : Given → Given → Bool
is_same_row a b = a.row == b.row

-- the tests of the pairs of a line of the section's own set
abbrev pub own_given_tests : List (List ℕ) → List Given → List Given → FieldList → Tests
own_given_tests rows before more fs = flat_map (pair_tests rows) (pairs fs) ++ (repeats is_same_row before more, DoubleEntry) ∷ []

abbrev pub given_tests : Heading → Lines → FieldList → Tests
given_tests h seen fs =
    (not (nat_le 2 (length fs) && nat_le (length fs) 5), Fields)
    ∷ (if is_own (sets h seen) (set_of fs) then own_given_tests (row_names seen) (given h seen) (given_on (row_names seen) (sets h seen) fs) (behind_set fs) else [])

-- BOUNDS.

-- the line may have this number of fields
abbrev pub is_bound_length : BoundType → ℕ → Bool
is_bound_length t n = if has_number t then (n == 3) || (n == 4) else (n == 2) || ((n == 3) || (n == 4))

-- a number is infinite to the wrong side: in UP and UI downward, in LO and LI upward, in FX to either side
abbrev pub is_wrong_side : BoundType → Dec → Bool
is_wrong_side Up d = is_infinite d && is_below_zero d
is_wrong_side Ui d = is_infinite d && is_below_zero d
is_wrong_side Lo d = is_infinite d && not (is_below_zero d)
is_wrong_side Li d = is_infinite d && not (is_below_zero d)
is_wrong_side Fx d = is_infinite d
is_wrong_side _ d = false

-- the tests of a column and a number, where the kind has one
abbrev pub own_bound_tests : List (List ℕ) → BoundType → FieldList → Tests
own_bound_tests names t fs =
    (not (is_among names (field 0 fs)), UnknownColumn)
    ∷ (if has_number t then number_tests (field 1 fs) ++ (is_wrong_side t (number_of (field 1 fs)), Number) ∷ [] else [])

abbrev pub bound_tests_of : List (List ℕ) → List (List ℕ) → Option BoundType → FieldList → Tests
bound_tests_of names sets None fs = (true, BoundKind) ∷ []
bound_tests_of names sets (Some t) fs =
    (not (is_bound_length t (length fs)), Fields)
    ∷ (if is_own sets (bound_set (Some t) fs) then own_bound_tests names t (behind_bound_set t fs) else [])

abbrev pub bound_tests : Lines → FieldList → Tests
bound_tests seen fs = bound_tests_of (columns seen) (bound_sets seen) (bound_type (field 0 fs)) fs

-- Data lines.

-- the tests of a data line in a section
abbrev pub section_tests : Option Heading → Lines → FieldList → Tests
section_tests (Some ObjSense) seen fs = (not (waits_for_sense seen), Section) ∷ sense_tests fs
section_tests (Some Rows) seen fs = row_tests (row_names seen) (row_types seen) fs
section_tests (Some Columns) seen fs = column_tests seen fs
section_tests (Some Rhs) seen fs = given_tests Rhs seen fs
section_tests (Some Ranges) seen fs = given_tests Ranges seen fs
section_tests (Some Bounds) seen fs = bound_tests seen fs
section_tests _ seen fs = (true, Section) ∷ []

-- the tests of a line behind some others
unfoldable pub line_tests : Lines → NumberedLine → Tests
line_tests seen l =
    (not l.text, NotText)
    ∷ (if l.header then header_tests seen l.fields else section_tests (section seen) seen l.fields)
