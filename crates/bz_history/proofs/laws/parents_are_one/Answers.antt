use Rattle.bz_history.proofs.TreeSizes.{parents_are_one}
use Rattle.bz_history.proofs.laws.parents_are_one.Goals as goal

pub returns : goal.returns
returns c = parents_are_one
