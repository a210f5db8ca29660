-- What the steps of reading a partition's text give.
use Rattle.std.specs.Prelude.{ℕ, ◌≡◌, Bool, not, List, [], ◌∷◌, ◌++◌, map, nat_lt, Option, Some, None, option_map, Result, Ok, Err, MatchResult}
use Rattle.std.specs.Str.Parse.{digits_value}
use Rattle.bz_lines.specs.FirstFault.{first_failing, first_fault}
use Rattle.bz_lines.specs.NumberedLines.{NumberedLine}
use Rattle.bz_part.specs.declared.faults.PartKind.{PartKind}
use Rattle.bz_part.specs.declared.faults.PartKind.TheVariants.{Head, Limit}
use Rattle.bz_part.specs.declared.faults.PartStop.{PartStop}
use Rattle.bz_part.specs.declared.faults.PartStop.TheVariants.{Fault, OutOfMemory}
use Rattle.bz_part.specs.PartitionLines.{column_tests, head_tests, is_number, name_on, number_on}

-- what is tested of a number, which is a fault of this kind where it is none
abbrev pub number_tests : PartKind → List ℕ → List (Bool × PartKind)
number_tests kind digits = (not (is_number digits), kind) ∷ (nat_lt 256 (digits_value 10 digits), Limit) ∷ []

-- the answer is P's where no test fails, and the kind of the first test that fails
abbrev pub Tested : {X : Type 0} → List (Bool × PartKind) → (X → Type 0) → Result X PartKind → Type 0
Tested tests P r = MatchResult r (λ x. (first_failing tests ≡ None) × P x) (λ kind. first_failing tests ≡ Some kind)

-- what a later line says: a column's name and its number
abbrev pub said : NumberedLine → List ℕ × ℕ
said line = (name_on line, number_on line)

-- the first of the lines and the others behind it, read as the partition's first line
abbrev pub ReadsHead : List NumberedLine → Result ℕ PartStop → List NumberedLine → Type 0
ReadsHead [] (Ok n) others = ⊥
ReadsHead [] (Err (Fault f)) others = (f.line ≡ 0) × (f.kind ≡ Head)
ReadsHead [] (Err OutOfMemory) others = Unit {0}
ReadsHead (l ∷ ls) (Ok n) others = (first_failing (head_tests l) ≡ None) × (n ≡ number_on l) × (ls ≡ others)
ReadsHead (l ∷ ls) (Err (Fault f)) others = (first_failing (head_tests l) ≡ Some f.kind) × (f.line ≡ l.number)
ReadsHead (l ∷ ls) (Err OutOfMemory) others = Unit {0}

-- the tests of a later line, by the later lines before it
abbrev pub later_tests : List (List ℕ) → List NumberedLine → NumberedLine → List (Bool × PartKind)
later_tests known before line = column_tests known (map name_on before) line

-- a fault by the number of its line
abbrev pub fault_by_number : NumberedLine × PartKind → ℕ × PartKind
fault_by_number p = (p.0.number, p.1)

-- the number of the first line that fails, and its kind, among later lines of which the first are `before`
abbrev pub later_fault : List (List ℕ) → List NumberedLine → List NumberedLine → Option (ℕ × PartKind)
later_fault known before ls = option_map fault_by_number (first_fault (later_tests known) before ls)

-- a later line, read behind the facts of those before it
abbrev pub ReadsColumn : List (List ℕ) → List (List ℕ × ℕ) → NumberedLine → Result (Unit {0}) PartStop → List (List ℕ × ℕ) → Type 0
ReadsColumn known facts line (Ok _) new =
    (first_failing (column_tests known (map (λ e. e.0) facts) line) ≡ None) × (new ≡ facts ++ said line ∷ [])
ReadsColumn known facts line (Err (Fault f)) new =
    (first_failing (column_tests known (map (λ e. e.0) facts) line) ≡ Some f.kind) × (f.line ≡ line.number)
ReadsColumn known facts line (Err OutOfMemory) new = Unit {0}

-- the later lines, read as what they say of columns
abbrev pub ReadsColumns : List (List ℕ) → List NumberedLine → Result (List (List ℕ × ℕ)) PartStop → Type 0
ReadsColumns known ls (Ok facts) = (later_fault known [] ls ≡ None) × (facts ≡ map said ls)
ReadsColumns known ls (Err (Fault f)) = later_fault known [] ls ≡ Some (f.line, f.kind)
ReadsColumns known ls (Err OutOfMemory) = Unit {0}
