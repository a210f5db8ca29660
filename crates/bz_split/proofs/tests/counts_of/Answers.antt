use Rattle.bz_split.proofs.ThreeColumns.{partition_of_three}
use Rattle.bz_split.proofs.tests.counts_of.Goals as goal

pub split-requires-clause-partition : goal.split-requires-clause-partition
split-requires-clause-partition c = rw (c.from_vec-part.ensures, c.in_ok-from_slice.ensures.items) (partition_of_three c.in_ok-model.model c.in_ok-model.ensures.columns)
