use Rattle.bz_history.proofs.FloorSteps.{floors_come_first}
use Rattle.bz_history.proofs.laws.floors_come_first.Goals as goal

pub returns : goal.returns
returns c = floors_come_first
