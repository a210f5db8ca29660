-- The facts that the lines of a model's text state. Each list is gathered line by line, so that the facts of some lines
-- and one more are those of the lines and those of the one more.
use Rattle.std.specs.Prelude.{ℕ, Bool, true, false, ◌==◌, ◌&&◌, ◌||◌, not, nat_le, length, drop, fold, map, bytes_eq, List, [], ◌∷◌, Option, Some, None, option_to_list, if◌then◌else◌}
use Rattle.std.specs.List.{last_or, list_any}
use Rattle.bz_lines.specs.FieldLists.{Fields, field}
use Rattle.bz_lines.specs.LinesBefore.{gathered}
use Rattle.bz_lines.specs.NameLists.{is_among, place, with_name}
use Rattle.bz_lines.specs.NumberedLines.{NumberedLine}
use Rattle.bz_num.specs.declared.decimal.Dec.{Dec}
use Rattle.bz_facts.specs.declared.records.BoundLine.{BoundLine}
use Rattle.bz_facts.specs.declared.records.BoundType.{BoundType}
use Rattle.bz_facts.specs.declared.records.Entry.{Entry}
use Rattle.bz_facts.specs.declared.records.Given.{Given}
use Rattle.bz_facts.specs.declared.records.Heading.{Heading}
use Rattle.bz_facts.specs.declared.records.Heading.TheVariants.{ObjSense, Rows, Columns, Bounds}
use Rattle.bz_facts.specs.declared.records.RowType.{RowType}
use Rattle.bz_facts.specs.Headings.{Lines, gathered_in, heading_on, is_in, is_it}
use Rattle.bz_facts.specs.Spellings.{is_infinite, spelled, value}
use Rattle.bz_facts.specs.Words.{bound_type, has_number, is_greater_word, is_marker, opening, row_type}

-- OBJSENSE: its word is the header's second field or the first of a data line.

abbrev pub sense_on : Lines → NumberedLine → List (List ℕ)
sense_on seen l =
    if l.header then (if is_it ObjSense (heading_on l) then drop 1 l.fields else []) else (if is_in ObjSense seen then field 0 l.fields ∷ [] else [])

abbrev pub sense_words : Lines → List (List ℕ)
sense_words ls = gathered sense_on [] ls

abbrev pub maximises : Lines → Bool
maximises ls = list_any is_greater_word (sense_words ls)

-- ROWS: a kind and a name.

abbrev pub row_names : Lines → List (List ℕ)
row_names ls = gathered_in Rows (λ seen l. field 1 l.fields ∷ []) ls

abbrev pub row_types : Lines → List RowType
row_types ls = gathered_in Rows (λ seen l. option_to_list (row_type (field 0 l.fields))) ls

-- COLUMNS: a column and one or two pairs of a row and a number, or a marker line.

-- the marker words
abbrev pub markers : Lines → List (List ℕ)
markers ls = gathered_in Columns (λ seen l. if is_marker l.fields then field 2 l.fields ∷ [] else []) ls

abbrev pub is_opening : Option (List ℕ) → Bool
is_opening None = false
is_opening (Some word) = bytes_eq word opening

-- whether the last marker opens: columns from here on are integer
abbrev pub is_open : Lines → Bool
is_open ls = is_opening (last_or None (markers ls))

-- the columns that the lines name, line by line
abbrev pub columns_named : Lines → List (List ℕ)
columns_named ls = gathered_in Columns (λ seen l. if is_marker l.fields then [] else field 0 l.fields ∷ []) ls

-- each once, in the order in which they first come
abbrev pub columns : Lines → List (List ℕ)
columns ls = fold with_name [] (columns_named ls)

-- the line names a column that is none of these
abbrev pub begins_column : List (List ℕ) → Fields → Bool
begins_column names fs = not (is_marker fs) && not (is_among names (field 0 fs))

-- whether the marker is open at each column's first line
abbrev pub integers : Lines → List Bool
integers ls = gathered_in Columns (λ seen l. if begins_column (columns seen) l.fields then is_open seen ∷ [] else []) ls

-- some fields two by two
abbrev pub pairs : Fields → List (List ℕ × List ℕ)
pairs [] = []
pairs (a ∷ []) = []
pairs (a ∷ b ∷ fs) = (a, b) ∷ pairs fs

-- the number that a field spells
abbrev pub number_of : List ℕ → Dec
number_of digits = value (spelled digits)

abbrev pub entry_of : List (List ℕ) → ℕ → List ℕ × List ℕ → Entry
entry_of rows column p = record { column = column; row = place rows p.0; number = number_of p.1 }

-- the entries of a line of some column, which may be new
abbrev pub entries_on : List (List ℕ) → List (List ℕ) → Fields → List Entry
entries_on rows names fs = if is_marker fs then [] else map (entry_of rows (place names (field 0 fs))) (pairs (drop 1 fs))

abbrev pub entries : Lines → List Entry
entries ls = gathered_in Columns (λ seen l. entries_on (row_names seen) (columns seen) l.fields) ls

-- RHS and RANGES: a set name, which may be left out, and one or two pairs of a row and a number. The first line's set is
-- the section's own.

-- three and five fields have a set name
abbrev pub names_set : Fields → Bool
names_set fs = (length fs == 3) || (length fs == 5)

-- the set of a line, the empty name where it is left out
abbrev pub set_of : Fields → List ℕ
set_of fs = if names_set fs then field 0 fs else []

-- the fields behind it
abbrev pub behind_set : Fields → Fields
behind_set fs = if names_set fs then drop 1 fs else fs

-- the sets of a section's lines
abbrev pub sets : Heading → Lines → List (List ℕ)
sets h ls = gathered_in h (λ seen l. set_of l.fields ∷ []) ls

-- a set is the section's own, where these are the sets of the lines before
abbrev pub is_own : List (List ℕ) → List ℕ → Bool
is_own [] set = true
is_own (own ∷ sets) set = bytes_eq set own

abbrev pub given_of : List (List ℕ) → List ℕ × List ℕ → Given
given_of rows p = record { row = place rows p.0; number = number_of p.1 }

-- what a line of the section's own set gives
abbrev pub given_on : List (List ℕ) → List (List ℕ) → Fields → List Given
given_on rows sets fs = if is_own sets (set_of fs) then map (given_of rows) (pairs (behind_set fs)) else []

-- the right sides or the ranges
abbrev pub given : Heading → Lines → List Given
given h ls = gathered_in h (λ seen l. given_on (row_names seen) (sets h seen) l.fields) ls

-- BOUNDS: a kind, a set name, which may be left out, a column, and a number where the kind has one.

-- a line with a number has four fields with a set name, one without three or four
abbrev pub names_bound_set : BoundType → Fields → Bool
names_bound_set t fs = if has_number t then length fs == 4 else nat_le 3 (length fs)

abbrev pub bound_set : Option BoundType → Fields → List ℕ
bound_set None fs = []
bound_set (Some t) fs = if names_bound_set t fs then field 1 fs else []

-- the column and the number
abbrev pub behind_bound_set : BoundType → Fields → Fields
behind_bound_set t fs = if names_bound_set t fs then drop 2 fs else drop 1 fs

-- the sets of the section's lines
abbrev pub bound_sets : Lines → List (List ℕ)
bound_sets ls = gathered_in Bounds (λ seen l. bound_set (bound_type (field 0 l.fields)) l.fields ∷ []) ls

-- the bound of a line: none where its kind has no number or the number is infinite
abbrev pub bound_number : BoundType → List ℕ → Option Dec
bound_number t digits =
    if has_number t then (if is_infinite (number_of digits) then None else Some (number_of digits)) else None

-- what a line of the kind says, where these are the sets of the lines before
abbrev pub bound_on : List (List ℕ) → List (List ℕ) → ℕ → Option BoundType → Fields → List BoundLine
bound_on names sets line None fs = []
bound_on names sets line (Some t) fs =
    if is_own sets (bound_set (Some t) fs) then record {
      line = line;
      kind = t;
      column = place names (field 0 (behind_bound_set t fs));
      number = bound_number t (field 1 (behind_bound_set t fs));
    } ∷ [] else []

abbrev pub bounds : Lines → List BoundLine
bounds ls = gathered_in Bounds (λ seen l. bound_on (columns seen) (bound_sets seen) l.number (bound_type (field 0 l.fields)) l.fields) ls
