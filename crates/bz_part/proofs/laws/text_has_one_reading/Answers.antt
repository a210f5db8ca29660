use Rattle.bz_part.proofs.PartitionLaw.{not_both as never_both, one_fault, one_partition, some_reading}
use Rattle.bz_part.proofs.laws.text_has_one_reading.Goals as goal

pub returns : goal.returns
returns c = record { some = some_reading; partitions = one_partition; faults = one_fault; not_both = never_both }
