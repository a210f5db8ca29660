-- The headers of a model's text, and the section in which a line stands: that of the last header before it.
use Rattle.std.specs.Prelude.{ℕ, Bool, true, false, ◌&&◌, not, List, [], ◌∷◌, Option, Some, None, if◌then◌else◌}
use Rattle.std.specs.List.{filter_map, last_or, list_any}
use Rattle.bz_lines.specs.FieldLists.{field}
use Rattle.bz_lines.specs.LinesBefore.{gathered}
use Rattle.bz_lines.specs.NumberedLines.{NumberedLine}
use Rattle.bz_facts.specs.declared.records.Heading.{Heading}
use Rattle.bz_facts.specs.declared.records.Heading.TheVariants.{Name, ObjSense, Rows, Columns, Rhs, Ranges, Bounds, EndData}
use Rattle.bz_facts.specs.Words.{heading}

abbrev pub Lines : Type 0
Lines = List NumberedLine

-- the first field of a line
abbrev pub word : NumberedLine → List ℕ
word l = field 0 l.fields

-- the section that the line begins, where it is a header of one
abbrev pub heading_on : NumberedLine → Option Heading
heading_on l = if l.header then heading (word l) else None

-- the sections that the lines begin, in order
abbrev pub headings : Lines → List Heading
headings ls = filter_map heading_on ls

-- the section in which the line behind these stands
abbrev pub section : Lines → Option Heading
section ls = last_or None (headings ls)

abbrev pub is_same : Heading → Heading → Bool
is_same Name Name = true
is_same ObjSense ObjSense = true
is_same Rows Rows = true
is_same Columns Columns = true
is_same Rhs Rhs = true
is_same Ranges Ranges = true
is_same Bounds Bounds = true
is_same EndData EndData = true
is_same _ _ = false

-- it is this section
abbrev pub is_it : Heading → Option Heading → Bool
is_it h None = false
is_it h (Some g) = is_same h g

-- the line behind these stands in the section
abbrev pub is_in : Heading → Lines → Bool
is_in h seen = is_it h (section seen)

-- the section is one of these
abbrev pub has : Heading → List Heading → Bool
has h hs = list_any (is_same h) hs

-- the line of ENDATA
abbrev pub is_end : NumberedLine → Bool
is_end l = is_it EndData (heading_on l)

-- the lines up to the first of ENDATA, with it; what follows is ignored
abbrev pub up_to_end : Lines → Lines
up_to_end [] = []
up_to_end (l ∷ ls) = l ∷ (if is_end l then [] else up_to_end ls)

-- what f gives of a data line of the section and the lines before it
abbrev pub on_line_in : {F : Type 0} → Heading → (Lines → NumberedLine → List F) → Lines → NumberedLine → List F
on_line_in h f seen l = if not l.header && is_in h seen then f seen l else []

-- what f gives of the data lines of the section, each with the lines before it
abbrev pub gathered_in : {F : Type 0} → Heading → (Lines → NumberedLine → List F) → Lines → List F
gathered_in h f ls = gathered (on_line_in h f) [] ls
