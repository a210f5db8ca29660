use Rattle.bz_history.proofs.MeasureSteps.{nodes_are_few}
use Rattle.bz_history.proofs.laws.nodes_are_few.Goals as goal

pub returns : goal.returns
returns c = nodes_are_few
