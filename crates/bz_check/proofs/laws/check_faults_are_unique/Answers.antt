use Rattle.bz_check.proofs.AllTests.{fault_fails, fault_is_one}
use Rattle.bz_check.proofs.CheckDecided.{passes_or_fault}
use Rattle.bz_check.proofs.laws.check_faults_are_unique.Goals as goal

pub returns : goal.returns
returns c = record { unique = fault_is_one; faulty = fault_fails; either = passes_or_fault }
