use Rattle.bz_history.proofs.OutcomeSteps.{outcomes_are_true}
use Rattle.bz_history.proofs.laws.outcomes_are_true.Goals as goal

pub returns : goal.returns
returns c = outcomes_are_true
