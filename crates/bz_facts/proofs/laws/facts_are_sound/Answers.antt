use Rattle.bz_facts.proofs.FactsOfTexts.{facts_sound}
use Rattle.bz_facts.proofs.laws.facts_are_sound.Goals as goal

pub returns : goal.returns
returns c = facts_sound
