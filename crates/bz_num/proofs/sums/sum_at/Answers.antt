use Rattle.std.proofs.Common.{pos}
use Rattle.bz_num.proofs.Rows.{below_at}
use Rattle.bz_num.proofs.sums.sum_at.Goals as goal

pub number-requires : goal.number-requires
number-requires g c = below_at _ c.as_slice-entry-items.result.now c.loop-entry.entry-index (0, pos 0) (rw c.as_slice-entry-items.ensures.value c.requires) c.loop-entry-test.true
