use Rattle.bz_ending.proofs.Lowering as lemmas
use Rattle.bz_ending.proofs.laws.answers_lower.Goals as goal

pub returns : goal.returns
returns c = lemmas.answers_lower
