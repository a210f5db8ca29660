-- The facts of a model's text, and the fault of its lines.
use Rattle.std.specs.Prelude.{ℕ, ◌≡◌, ◌⊎◌, true, false, List, [], Option, Some, None}
use Rattle.std.specs.List.{list_any, last_or}
use Rattle.bz_lines.specs.FirstFault.{IsFirstFault, NoLineFails}
use Rattle.bz_lines.specs.NumberedLines.{NumberedLine, line_count, numbered_lines}
use Rattle.bz_facts.specs.declared.faults.MpsKind.{MpsKind}
use Rattle.bz_facts.specs.declared.faults.MpsKind.TheVariants.{NoEnd}
use Rattle.bz_facts.specs.declared.faults.MpsStop.{MpsStop}
use Rattle.bz_facts.specs.declared.faults.MpsStop.TheVariants.{Fault, OutOfMemory}
use Rattle.bz_facts.specs.declared.records.Facts.{Facts}
use Rattle.bz_facts.specs.declared.records.Heading.TheVariants.{Rhs, Ranges}
use Rattle.bz_facts.specs.Headings.{Lines, is_end, up_to_end}
use Rattle.bz_facts.specs.LineFacts.{bounds, columns, entries, given, integers, maximises, row_names, row_types}
use Rattle.bz_facts.specs.LineTests.{line_tests}

-- the lines of a model's text that are read: those up to ENDATA that are neither comments nor empty
abbrev pub lines_read : List ℕ → Lines
lines_read text = up_to_end (numbered_lines text)

-- the facts are those of the lines
pub record AreFacts (ls : Lines) (f : Facts) : Type 0 where
  pub maximise : f.maximise ≡ maximises ls
  pub row_names : f.row_names ≡ row_names ls
  pub row_types : f.row_types ≡ row_types ls
  pub columns : f.columns ≡ columns ls
  pub integers : f.integers ≡ integers ls
  pub entries : f.entries ≡ entries ls
  pub right_sides : f.right_sides ≡ given Rhs ls
  pub ranges : f.ranges ≡ given Ranges ls
  pub bounds : f.bounds ≡ bounds ls

-- the number of the last line, 0 where there is none
abbrev pub last_number : Option NumberedLine → ℕ
last_number None = 0
last_number (Some l) = l.number

-- no line of the text fails, ENDATA is there, and the facts are those of the lines
pub record IsFactsOf (text : List ℕ) (f : Facts) : Type 0 where
  pub lines : NoLineFails line_tests [] (lines_read text)
  pub ended : list_any is_end (lines_read text) ≡ true
  pub facts : AreFacts (lines_read text) f
  pub end : f.end ≡ last_number (last_or None (lines_read text))

-- a line of the text fails, the first one by this kind
pub record FailsAt (text : List ℕ) (line : ℕ) (kind : MpsKind) : Type 0 where
  pub failing : NumberedLine
  pub number : failing.number ≡ line
  pub first : IsFirstFault line_tests (lines_read text) failing kind

-- no line of the text fails, but it ends before ENDATA; the line is the number of its lines
pub record HasNoEnd (text : List ℕ) (line : ℕ) (kind : MpsKind) : Type 0 where
  pub lines : NoLineFails line_tests [] (lines_read text)
  pub missing : list_any is_end (lines_read text) ≡ false
  pub number : line ≡ line_count text
  pub is : kind ≡ NoEnd

-- the text has this fault, by one of its lines or as it has no end
abbrev pub IsLineFault : List ℕ → ℕ → MpsKind → Type 0
IsLineFault text line kind = FailsAt text line kind ⊎ HasNoEnd text line kind

-- a reader stops by a fault of this kind, or for want of memory
abbrev pub StopsBy : (ℕ → MpsKind → Type 0) → MpsStop → Type 0
StopsBy IsFault (Fault f) = IsFault f.line f.kind
StopsBy IsFault OutOfMemory = Unit {0}
