use Rattle.bz_core.proofs.TasksThere.{tasks_are_there}
use Rattle.bz_core.proofs.laws.tasks_are_there.Goals as goal

pub returns : goal.returns
returns c = tasks_are_there
