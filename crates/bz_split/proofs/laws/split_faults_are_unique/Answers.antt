use Rattle.bz_split.proofs.TheFaults.{fault_exactly, same_fault, strict_or_fault}
use Rattle.bz_split.proofs.laws.split_faults_are_unique.Goals as goal

pub returns-clause-unique : goal.returns-clause-unique
returns-clause-unique c = same_fault

pub returns-clause-exactly : goal.returns-clause-exactly
returns-clause-exactly c = fault_exactly

pub returns-clause-either : goal.returns-clause-either
returns-clause-either c = strict_or_fault
