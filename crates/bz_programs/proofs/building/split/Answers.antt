use Rattle.bz_cut.proofs.WorkedSplits.{linked_indexes, linked_partition, linked_strict}
use Rattle.bz_programs.proofs.building.split.Goals as goal

pub new-requires-clause-indexes : goal.new-requires-clause-indexes
new-requires-clause-indexes c = linked_indexes _ _ _ c.in_ok-model.model c.in_ok-model.ensures.columns c.in_ok-model.ensures.rows c.in_ok-model.ensures.cost

pub new-requires-clause-partition : goal.new-requires-clause-partition
new-requires-clause-partition c = rw (c.from_vec-part.ensures, c.in_ok-from_slice.ensures.items) (linked_partition c.in_ok-model.model c.in_ok-model.ensures.columns)

pub new-requires-clause-strict : goal.new-requires-clause-strict
new-requires-clause-strict c = rw (c.from_vec-part.ensures, c.in_ok-from_slice.ensures.items) (linked_strict _ c.in_ok-model.model c.in_ok-model.ensures.columns c.in_ok-model.ensures.rows)
