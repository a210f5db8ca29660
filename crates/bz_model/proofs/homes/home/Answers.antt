use Rattle.std.proofs.Common.{pos}
use Rattle.bz_model.proofs.Sparse.{below_at}
use Rattle.bz_model.proofs.homes.home.Goals as goal

pub bounds-part-entry : goal.bounds-part-entry
bounds-part-entry c = below_at _ c.as_slice-entry-items.result.now c.loop-entry.entry-index (0, pos 0) (rw c.as_slice-entry-items.ensures.value c.requires) c.loop-entry-test.true
