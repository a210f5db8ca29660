use Rattle.bz_tree.proofs.SplitBoxes.{in_a_side}
use Rattle.bz_tree.proofs.laws.splits_cover.Goals as goal

pub returns : goal.returns
returns c = in_a_side
