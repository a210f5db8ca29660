use Rattle.bz_rules.proofs.NodesFollow as lemmas
use Rattle.bz_rules.proofs.laws.nodes_follow.Goals as goal

pub returns : goal.returns
returns c = lemmas.nodes_follow
