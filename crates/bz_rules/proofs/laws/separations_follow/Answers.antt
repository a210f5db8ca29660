use Rattle.bz_rules.proofs.SeparationsFollow as lemmas
use Rattle.bz_rules.proofs.laws.separations_follow.Goals as goal

pub returns : goal.returns
returns c = lemmas.separations_follow
