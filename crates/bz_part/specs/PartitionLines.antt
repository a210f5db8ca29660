-- The lines of a partition's text, and the tests of each.
use Rattle.std.specs.Prelude.{ℕ, ◌==◌, ◌&&◌, ◌||◌, not, Bool, List, [], ◌∷◌, length, map, codes, bytes_eq, nat_lt, nat_le, slice_index}
use Rattle.std.specs.List.{list_all}
use Rattle.std.specs.Str.Parse.{digits_value}
use Rattle.bz_lines.specs.FieldLists.{field}
use Rattle.bz_lines.specs.NameLists.{is_among}
use Rattle.bz_lines.specs.NumberedLines.{NumberedLine}
use Rattle.bz_part.specs.declared.faults.PartKind.{PartKind}
use Rattle.bz_part.specs.declared.faults.PartKind.TheVariants.{Head, Fields, Unknown, Double, Value, Limit, NotText}

-- a decimal digit: `0` (48) to `9` (57)
abbrev pub is_digit : ℕ → Bool
is_digit b = nat_le 48 b && nat_le b 57

-- a number in decimal: digits, and a zero first in `0` alone
abbrev pub is_number : List ℕ → Bool
is_number digits =
    nat_lt 0 (length digits) && list_all is_digit digits && ((length digits == 1) || not (slice_index digits 0 == 48))

-- the first field of a line, and its second one
abbrev pub name_on : NumberedLine → List ℕ
name_on line = field 0 line.fields

abbrev pub digits_on : NumberedLine → List ℕ
digits_on line = field 1 line.fields

-- the number that the second field spells
abbrev pub number_on : NumberedLine → ℕ
number_on line = digits_value 10 (digits_on line)

-- the form of the first line: the word and a number
abbrev pub is_head : NumberedLine → Bool
is_head line =
    (length line.fields == 2) && bytes_eq (name_on line) (codes "cpxBendersPartition") && is_number (digits_on line)

-- what is tested of the first line, in order
abbrev pub head_tests : NumberedLine → List (Bool × PartKind)
head_tests line =
    (not line.text, NotText) ∷ (not (is_head line), Head) ∷ (nat_lt 256 (number_on line), Limit) ∷ []

-- what is tested of each later line, in order, where columns have the names `known` and earlier lines name the columns
-- `named`
abbrev pub column_tests : List (List ℕ) → List (List ℕ) → NumberedLine → List (Bool × PartKind)
column_tests known named line =
    (not line.text, NotText)
    ∷ (not (length line.fields == 2), Fields)
    ∷ (not (is_among known (name_on line)), Unknown)
    ∷ (is_among named (name_on line), Double)
    ∷ (not (is_number (digits_on line)), Value)
    ∷ (nat_lt 256 (number_on line), Limit)
    ∷ []

-- what is tested of a line, by the lines before it
abbrev pub part_tests : List (List ℕ) → List NumberedLine → NumberedLine → List (Bool × PartKind)
part_tests known [] line = head_tests line
part_tests known (first ∷ before) line = column_tests known (map name_on before) line
