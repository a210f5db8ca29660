use Rattle.bz_history.proofs.SizeSteps.{sizes_are_right}
use Rattle.bz_history.proofs.laws.sizes_are_right.Goals as goal

pub returns : goal.returns
returns c = sizes_are_right
