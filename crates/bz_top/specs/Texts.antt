-- The texts that the program prints.
use Rattle.std.specs.Prelude.{ℕ, ◌+◌, List, [], ◌∷◌, ◌++◌, codes, map, slice_index_or}
use Rattle.bz_cert.specs.declared.CertFault.{CertFault}
use Rattle.bz_cert.specs.CertKinds.{cert_name, cert_number}
use Rattle.bz_judge.specs.declared.CheckFault.{CheckFault}
use Rattle.bz_judge.specs.declared.CheckFault.TheVariants as fault
use Rattle.bz_model.specs.Stated.{stated_fraction}
use Rattle.bz_model.specs.declared.Model.{Model}
use Rattle.bz_model.specs.Parting.{part_of, width_of}
use Rattle.bz_model.specs.Splits.{Decomposition}
use Rattle.bz_model.specs.Strict.{size_of}
use Rattle.bz_facts.specs.declared.MpsFault.{MpsFault}
use Rattle.bz_facts.specs.MpsKinds.{mps_name, mps_number}
use Rattle.bz_part.specs.declared.PartFault.{PartFault}
use Rattle.bz_part.specs.PartKinds.{part_name, part_number}
use Rattle.bz_split.specs.declared.SplitFault.{SplitFault}
use Rattle.bz_split.specs.declared.SplitFault.TheVariants as split
use Rattle.bz_text.specs.Texts.{fraction_text, line, number, numbered}
use Rattle.bz_top.specs.declared.said.Said.{Said}
use Rattle.bz_top.specs.declared.said.Holding.{Holding}
use Rattle.bz_top.specs.declared.said.Holding.TheVariants.{Optimal, Infeasible, Unbounded}

abbrev pub usage_text : List ℕ
usage_text = codes "usage: solve MODEL PART CERT [--budget=N] [--workers=N] | check MODEL PART CERT | split MODEL PART | try N\n"

abbrev pub memory_text : List ℕ
memory_text = line (codes "out of memory")

-- what a certificate that holds says
abbrev pub verdict_text : Holding → List ℕ
verdict_text (Optimal stated) = codes "optimal " ++ fraction_text (stated_fraction stated)
verdict_text Infeasible = codes "infeasible"
verdict_text Unbounded = codes "unbounded"

-- what a check prints of a certificate that holds
abbrev pub holds_text : Holding → List ℕ
holds_text holding = line (codes "certificate holds: " ++ verdict_text holding)

-- a fault of a text: its line, the number of its kind, and the name of its kind
abbrev pub text_fault : List ℕ → ℕ → ℕ → List ℕ → List ℕ
text_fault file place kind name = file ++ codes " line " ++ number place ++ codes ": " ++ number kind ++ 32 ∷ name

-- a fault of a certificate's text
abbrev pub cert_fault : CertFault → List ℕ
cert_fault f = text_fault (codes "certificate") f.line (cert_number f.kind) (cert_name f.kind)

-- a fault of a model's text
abbrev pub mps_fault : MpsFault → List ℕ
mps_fault f = text_fault (codes "model") f.line (mps_number f.kind) (mps_name f.kind)

-- a fault of a partition's text
abbrev pub part_fault : PartFault → List ℕ
part_fault f = text_fault (codes "partition") f.line (part_number f.kind) (part_name f.kind)

-- the name of a row, and of a column: a refused split names those of its model alone
abbrev pub row_named : Model → ℕ → List ℕ
row_named m i = slice_index_or (map (λ row. row.name) m.rows) i []

abbrev pub column_named : Model → ℕ → List ℕ
column_named m j = slice_index_or (map (λ column. column.name) m.columns) j []

-- why a model has no split by a partition
abbrev pub split_fault : Model → List ℕ → SplitFault → List ℕ
split_fault m p (split.Joins row a b) = codes "joins " ++ row_named m row ++ numbered a ++ numbered b
split_fault m p (split.IntegerInBlock column) = codes "integer in block " ++ column_named m column ++ numbered (part_of p column)
split_fault m p (split.IntegerOpen column) = codes "integer open " ++ column_named m column
split_fault m p (split.OpenMaster column) = codes "open master " ++ column_named m column
split_fault m p (split.TooLarge b count) = codes "too large" ++ numbered b ++ numbered count
split_fault m p split.OutOfMemory = []

-- the line of a part: how many columns, rows and inequalities it has, two counted for each integer column of the master
abbrev pub part_line : Decomposition → ℕ → ℕ → List ℕ
part_line d p rows =
    line (codes "part " ++ number p ++ codes " columns " ++ number (width_of d.part p) ++ codes " rows " ++ number rows
    ++ codes " inequalities " ++ number (size_of d.model d.part p))

-- the lines of the parts from part p on, of which the rows are counted
abbrev pub parts_from : Decomposition → ℕ → List ℕ → List ℕ
parts_from d p [] = []
parts_from d p (rows ∷ more) = part_line d p rows ++ parts_from d (p + 1) more

-- what is printed of a split
abbrev pub parts_text : Decomposition → List ℕ → List ℕ
parts_text d rows = parts_from d 0 rows

-- what is printed of what a job comes to
abbrev pub said_text : Said → List ℕ
said_text (Said.Holds holding) = holds_text holding
said_text (Said.Parts d rows) = parts_text d rows

-- a fault of a check
abbrev pub check_fault : CheckFault → List ℕ
check_fault fault.Shape = codes "Shape"
check_fault (fault.Point part at) = codes "Point" ++ numbered part ++ numbered at
check_fault (fault.Cost block) = codes "Cost" ++ numbered block
check_fault fault.Value = codes "Value"
check_fault fault.Ray = codes "Ray"
check_fault (fault.Cut i) = codes "Cut" ++ numbered i
check_fault (fault.Cover node) = codes "Cover" ++ numbered node
check_fault (fault.Leaf node) = codes "Leaf" ++ numbered node
check_fault (fault.Wide sum at) = codes "Wide" ++ numbered sum ++ numbered at
check_fault fault.OutOfMemory = []

-- what a check prints of a certificate that it refuses
abbrev pub check_word : List ℕ → List ℕ
check_word word = codes "certificate: " ++ word
