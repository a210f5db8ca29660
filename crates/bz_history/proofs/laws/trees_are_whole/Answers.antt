use Rattle.bz_history.proofs.TreeSteps.{trees_are_whole}
use Rattle.bz_history.proofs.laws.trees_are_whole.Goals as goal

pub returns : goal.returns
returns c = trees_are_whole
