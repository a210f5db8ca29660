use Rattle.bz_history.proofs.LeafSteps.{leaves_are_right}
use Rattle.bz_history.proofs.laws.leaves_are_right.Goals as goal

pub returns : goal.returns
returns c = leaves_are_right
