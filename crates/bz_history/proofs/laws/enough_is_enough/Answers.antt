use Rattle.bz_history.proofs.BudgetSteps.{enough_is_enough}
use Rattle.bz_history.proofs.laws.enough_is_enough.Goals as goal

pub returns : goal.returns
returns c = enough_is_enough
