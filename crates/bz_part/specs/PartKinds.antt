-- The number and the name of each kind of fault of a partition's text.
use Rattle.std.specs.Prelude.{ℕ, List, codes}
use Rattle.bz_part.specs.declared.faults.PartKind.{PartKind}
use Rattle.bz_part.specs.declared.faults.PartKind.TheVariants as kind

abbrev pub part_number : PartKind → ℕ
part_number kind.Head = 1
part_number kind.Fields = 2
part_number kind.Unknown = 3
part_number kind.Double = 4
part_number kind.Value = 5
part_number kind.Limit = 6
part_number (kind.Gap block) = 7
part_number kind.NotText = 8

abbrev pub part_name : PartKind → List ℕ
part_name kind.Head = codes "Head"
part_name kind.Fields = codes "Fields"
part_name kind.Unknown = codes "Unknown"
part_name kind.Double = codes "Double"
part_name kind.Value = codes "Value"
part_name kind.Limit = codes "Limit"
part_name (kind.Gap block) = codes "Gap"
part_name kind.NotText = codes "NotText"
