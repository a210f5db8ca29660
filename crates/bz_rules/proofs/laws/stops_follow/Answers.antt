use Rattle.bz_rules.proofs.StopsFollow as lemmas
use Rattle.bz_rules.proofs.laws.stops_follow.Goals as goal

pub returns : goal.returns
returns c = lemmas.stops_follow
