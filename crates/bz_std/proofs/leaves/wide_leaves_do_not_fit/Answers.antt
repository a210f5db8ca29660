use Rattle.bz_std.proofs.LeafNumbers.{leaf_narrow}
use Rattle.bz_std.proofs.leaves.wide_leaves_do_not_fit.Goals as goal

pub returns : goal.returns
returns c = leaf_narrow
