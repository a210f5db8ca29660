-- The words of a model's text.
use Rattle.std.specs.Prelude.{ℕ, Bool, true, false, List, [], ◌∷◌, Option, Some, None, codes, bytes_eq, ◌==◌, ◌&&◌, length, if◌then◌else◌}
use Rattle.bz_lines.specs.FieldLists.{Fields, field}
use Rattle.bz_lines.specs.NameLists.{is_among}
use Rattle.bz_facts.specs.declared.records.BoundType.{BoundType}
use Rattle.bz_facts.specs.declared.records.BoundType.TheVariants.{Up, Lo, Fx, Fr, Mi, Pl, Bv, Li, Ui}
use Rattle.bz_facts.specs.declared.records.Heading.{Heading}
use Rattle.bz_facts.specs.declared.records.Heading.TheVariants.{Name, ObjSense, Rows, Columns, Rhs, Ranges, Bounds, EndData}
use Rattle.bz_facts.specs.declared.records.RowType.{RowType}
use Rattle.bz_facts.specs.declared.records.RowType.TheVariants.{Free, AtMost, AtLeast, Equal}

-- the section that a header's word begins
abbrev pub heading : List ℕ → Option Heading
heading word =
    (if bytes_eq word (codes "NAME") then Some Name else if bytes_eq word (codes "OBJSENSE") then Some ObjSense else if bytes_eq word (codes "ROWS") then Some Rows else if bytes_eq word (codes "COLUMNS") then Some Columns else if bytes_eq word (codes "RHS") then Some Rhs else if bytes_eq word (codes "RANGES") then Some Ranges else if bytes_eq word (codes "BOUNDS") then Some Bounds else if bytes_eq word (codes "ENDATA") then Some EndData else None)

-- the header's word is one of those of sections that are not read
abbrev pub is_left_out : List ℕ → Bool
is_left_out word =
    is_among (codes "SOS" ∷ codes "SOS1" ∷ codes "SOS2" ∷ codes "QSECTION" ∷ codes "QUADOBJ" ∷ codes "QMATRIX" ∷ codes "QCMATRIX" ∷ codes "INDICATORS" ∷ codes "LAZYCONS" ∷ codes "USERCUTS" ∷ codes "OBJNAME" ∷ codes "REFROW" ∷ []) word

-- the word says that a greater objective is better
abbrev pub is_greater_word : List ℕ → Bool
is_greater_word word = is_among (codes "MAX" ∷ codes "MAXIMIZE" ∷ []) word

-- the word says that a greater or that a lesser objective is better
abbrev pub is_sense_word : List ℕ → Bool
is_sense_word word = is_among (codes "MAX" ∷ codes "MAXIMIZE" ∷ codes "MIN" ∷ codes "MINIMIZE" ∷ []) word

-- what a row of this kind says
abbrev pub row_type : List ℕ → Option RowType
row_type word =
    (if bytes_eq word (codes "N") then Some Free else if bytes_eq word (codes "L") then Some AtMost else if bytes_eq word (codes "G") then Some AtLeast else if bytes_eq word (codes "E") then Some Equal else None)

-- a line of three fields whose second is `'MARKER'`
abbrev pub is_marker : Fields → Bool
is_marker fs = (length fs == 3) && bytes_eq (field 1 fs) (codes "'MARKER'")

-- the marker that opens, and the one that closes
abbrev pub opening : List ℕ
opening = codes "'INTORG'"

abbrev pub closing : List ℕ
closing = codes "'INTEND'"

-- the kind of a bound line
abbrev pub bound_type : List ℕ → Option BoundType
bound_type word =
    (if bytes_eq word (codes "UP") then Some Up else if bytes_eq word (codes "LO") then Some Lo else if bytes_eq word (codes "FX") then Some Fx else if bytes_eq word (codes "FR") then Some Fr else if bytes_eq word (codes "MI") then Some Mi else if bytes_eq word (codes "PL") then Some Pl else if bytes_eq word (codes "BV") then Some Bv else if bytes_eq word (codes "LI") then Some Li else if bytes_eq word (codes "UI") then Some Ui else None)

-- a bound line of this kind has a number
abbrev pub has_number : BoundType → Bool
has_number Up = true
has_number Lo = true
has_number Fx = true
has_number Li = true
has_number Ui = true
has_number Fr = false
has_number Mi = false
has_number Pl = false
has_number Bv = false
