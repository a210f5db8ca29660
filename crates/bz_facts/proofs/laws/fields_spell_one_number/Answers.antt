use Rattle.bz_facts.proofs.SpellingLaws.{same_spelled, spelled_is_exact}
use Rattle.bz_facts.proofs.laws.fields_spell_one_number.Goals as goal

pub returns-clause-exact : goal.returns-clause-exact
returns-clause-exact c = spelled_is_exact

pub returns-clause-same : goal.returns-clause-same
returns-clause-same c = same_spelled
