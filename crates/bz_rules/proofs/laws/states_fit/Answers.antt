use Rattle.bz_rules.proofs.FittingStates as lemmas
use Rattle.bz_rules.proofs.laws.states_fit.Goals as goal

pub returns : goal.returns
returns c = lemmas.states_fit
