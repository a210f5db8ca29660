-- What a partition's text says of a model: a partition, or its first fault.
use Rattle.std.specs.Prelude.{ℕ, ◌≡◌, ◌<◌, ◌⊎◌, List, [], ◌∷◌, map, bytes_eq, find, unwrap_or, Contains, Result, Ok, Err}
use Rattle.bz_lines.specs.FirstFault.{NoLineFails, IsFirstFault}
use Rattle.bz_lines.specs.NumberedLines.{NumberedLine, numbered_lines}
use Rattle.bz_model.specs.declared.records.Model.{Model}
use Rattle.bz_model.specs.Parting.{blocks_of}
use Rattle.bz_part.specs.declared.faults.PartKind.{PartKind}
use Rattle.bz_part.specs.declared.faults.PartKind.TheVariants.{Head, Gap}
use Rattle.bz_part.specs.declared.faults.PartStop.{PartStop}
use Rattle.bz_part.specs.declared.faults.PartStop.TheVariants.{Fault, OutOfMemory}
use Rattle.bz_part.specs.PartitionLines.{name_on, number_on, part_tests}

-- the names of a model's columns
abbrev pub names_of : Model → List (List ℕ)
names_of m = map (λ c. c.name) m.columns

-- the part of the column of a name: the number on the line that names it, or else the first line's
abbrev pub part_by : NumberedLine → List NumberedLine → List ℕ → ℕ
part_by first others name = number_on (unwrap_or (find (λ line. bytes_eq name (name_on line)) others) first)

-- no line fails, and these are the numbers that the lines give the columns
pub record Assigns (text : List ℕ) (m : Model) (part : List ℕ) : Type 0 where
  pub first : NumberedLine
  pub others : List NumberedLine
  pub lines : numbered_lines text ≡ first ∷ others
  pub passed : NoLineFails (part_tests (names_of m)) [] (numbered_lines text)
  pub parts : part ≡ map (λ c. part_by first others c.name) m.columns

-- every block below the greatest number has a column
abbrev pub HasNoGap : List ℕ → Type 0
HasNoGap part = (b : ℕ) → 0 < b → b < blocks_of part → Contains part b

-- the least block without a column among those below the greatest number
pub record IsGap (part : List ℕ) (block : ℕ) : Type 0 where
  pub some : 0 < block
  pub below : block < blocks_of part
  pub missing : Contains part block → ⊥
  pub least : (b : ℕ) → 0 < b → b < block → Contains part b

-- the text says the partition
pub record PartOf (text : List ℕ) (m : Model) (part : List ℕ) : Type 0 where
  pub assigned : Assigns text m part
  pub whole : HasNoGap part

-- a fault of a line: the line is the first that fails
pub record IsFaultOfLine (text : List ℕ) (m : Model) (number : ℕ) (kind : PartKind) : Type 0 where
  pub line : NumberedLine
  pub fault : IsFirstFault (part_tests (names_of m)) (numbered_lines text) line kind
  pub at : number ≡ line.number

-- a fault of no line: there is none
pub record IsWithoutHead (text : List ℕ) (number : ℕ) (kind : PartKind) : Type 0 where
  pub lines : numbered_lines text ≡ []
  pub at : number ≡ 0
  pub is : kind ≡ Head

-- or, behind all lines, a block has no column
pub record IsFaultOfGap (text : List ℕ) (m : Model) (number : ℕ) (kind : PartKind) : Type 0 where
  pub part : List ℕ
  pub block : ℕ
  pub assigned : Assigns text m part
  pub gap : IsGap part block
  pub at : number ≡ 0
  pub is : kind ≡ Gap block

-- the fault of the text
abbrev pub PartFault : List ℕ → Model → ℕ → PartKind → Type 0
PartFault text m number kind =
    IsFaultOfLine text m number kind ⊎ IsWithoutHead text number kind ⊎ IsFaultOfGap text m number kind

-- the reader answers the partition of the text, or its fault; want of memory tells nothing
abbrev pub ReadsPartition : {V : Type 0} → (V → List ℕ) → List ℕ → Model → Result V PartStop → Type 0
ReadsPartition view text m (Ok part) = PartOf text m (view part)
ReadsPartition view text m (Err (Fault f)) = PartFault text m f.line f.kind
ReadsPartition view text m (Err OutOfMemory) = Unit {0}
