use Rattle.bz_history.proofs.FrontSteps.{fronts_rise}
use Rattle.bz_history.proofs.laws.fronts_rise.Goals as goal

pub returns : goal.returns
returns c = fronts_rise
