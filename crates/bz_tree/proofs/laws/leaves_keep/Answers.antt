use Rattle.bz_tree.proofs.MoreCuts.{leaves_keep}
use Rattle.bz_tree.proofs.laws.leaves_keep.Goals as goal

pub returns : goal.returns
returns c = leaves_keep
