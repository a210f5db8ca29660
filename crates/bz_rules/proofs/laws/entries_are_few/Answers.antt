use Rattle.bz_rules.proofs.FewEntries as lemmas
use Rattle.bz_rules.proofs.laws.entries_are_few.Goals as goal

pub returns : goal.returns
returns c = lemmas.entries_are_few
