use Rattle.bz_rules.proofs.FloorsFollow as lemmas
use Rattle.bz_rules.proofs.laws.floors_follow.Goals as goal

pub returns : goal.returns
returns c = lemmas.floors_follow
