use Rattle.std.proofs.Common.{pos}
use Rattle.bz_num.proofs.Rows.{below_at}
use Rattle.bz_num.proofs.sparse_sums.fold_rest.Goals as goal

pub number-requires : goal.number-requires
number-requires g c = below_at _ c.args.rest.now c.loop-entry.entry-index (0, pos 0) c.requires.places c.loop-entry-test.true
