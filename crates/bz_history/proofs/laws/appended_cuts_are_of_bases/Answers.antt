use Rattle.bz_history.proofs.AppendedSteps.{appended_cuts_are_of_bases}
use Rattle.bz_history.proofs.laws.appended_cuts_are_of_bases.Goals as goal

pub returns : goal.returns
returns c = appended_cuts_are_of_bases
