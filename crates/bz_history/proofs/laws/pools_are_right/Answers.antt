use Rattle.bz_history.proofs.PoolSteps.{pools_are_right}
use Rattle.bz_history.proofs.laws.pools_are_right.Goals as goal

pub returns : goal.returns
returns c = pools_are_right
