use Rattle.bz_history.proofs.CoverSteps.{nothing_better_is_lost}
use Rattle.bz_history.proofs.laws.nothing_better_is_lost.Goals as goal

pub returns : goal.returns
returns c = nothing_better_is_lost
