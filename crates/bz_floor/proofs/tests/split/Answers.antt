use Rattle.bz_cut.proofs.WorkedSplits.{linked_strict}
use Rattle.bz_floor.proofs.tests.split.Goals as goal

pub new-requires-clause-strict : goal.new-requires-clause-strict
new-requires-clause-strict c = rw (c.from_vec-part.ensures, c.in_ok-from_slice.ensures.items) (linked_strict _ c.in_ok-model.model c.in_ok-model.ensures.columns c.in_ok-model.ensures.rows)
