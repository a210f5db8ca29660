use Rattle.bz_rules.proofs.GoingOn as lemmas
use Rattle.bz_rules.proofs.laws.histories_go_on.Goals as goal

pub returns : goal.returns
returns c = lemmas.histories_go_on
