-- The number and the name of each kind of fault of a model's text.
use Rattle.std.specs.Prelude.{ℕ, List, codes}
use Rattle.bz_facts.specs.declared.faults.MpsKind.{MpsKind}
use Rattle.bz_facts.specs.declared.faults.MpsKind.TheVariants as kind

abbrev pub mps_number : MpsKind → ℕ
mps_number kind.Section = 1
mps_number kind.Order = 2
mps_number kind.NoObjective = 3
mps_number kind.RowKind = 4
mps_number kind.DoubleName = 5
mps_number kind.UnknownRow = 6
mps_number kind.UnknownColumn = 7
mps_number kind.DoubleEntry = 8
mps_number kind.Number = 9
mps_number kind.TooWide = 10
mps_number kind.Fields = 11
mps_number kind.Marker = 12
mps_number kind.MarkerOpen = 13
mps_number kind.BoundKind = 14
mps_number kind.NegativeUpper = 15
mps_number kind.Crossed = 16
mps_number kind.NoEnd = 17
mps_number kind.NotText = 18
mps_number kind.Limit = 19
mps_number kind.Sense = 20
mps_number kind.SplitColumn = 21
mps_number kind.SectionOut = 22

abbrev pub mps_name : MpsKind → List ℕ
mps_name kind.Section = codes "Section"
mps_name kind.Order = codes "Order"
mps_name kind.NoObjective = codes "NoObjective"
mps_name kind.RowKind = codes "RowKind"
mps_name kind.DoubleName = codes "DoubleName"
mps_name kind.UnknownRow = codes "UnknownRow"
mps_name kind.UnknownColumn = codes "UnknownColumn"
mps_name kind.DoubleEntry = codes "DoubleEntry"
mps_name kind.Number = codes "Number"
mps_name kind.TooWide = codes "TooWide"
mps_name kind.Fields = codes "Fields"
mps_name kind.Marker = codes "Marker"
mps_name kind.MarkerOpen = codes "MarkerOpen"
mps_name kind.BoundKind = codes "BoundKind"
mps_name kind.NegativeUpper = codes "NegativeUpper"
mps_name kind.Crossed = codes "Crossed"
mps_name kind.NoEnd = codes "NoEnd"
mps_name kind.NotText = codes "NotText"
mps_name kind.Limit = codes "Limit"
mps_name kind.Sense = codes "Sense"
mps_name kind.SplitColumn = codes "SplitColumn"
mps_name kind.SectionOut = codes "SectionOut"
