use Rattle.bz_facts.proofs.FactLaws.{facts-no_fault, same_facts, same_line_fault, text_has_facts_or_fault}
use Rattle.bz_facts.proofs.laws.text_has_facts_or_one_fault.Goals as goal

pub returns-clause-some : goal.returns-clause-some
returns-clause-some c = text_has_facts_or_fault

pub returns-clause-apart : goal.returns-clause-apart
returns-clause-apart c = facts-no_fault

pub returns-clause-facts : goal.returns-clause-facts
returns-clause-facts c = same_facts

pub returns-clause-fault : goal.returns-clause-fault
returns-clause-fault c = same_line_fault
