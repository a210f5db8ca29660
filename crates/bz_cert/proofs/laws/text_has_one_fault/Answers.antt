use Rattle.bz_cert.proofs.TextFaults.{one_fault}
use Rattle.bz_cert.proofs.laws.text_has_one_fault.Goals as goal

pub returns : goal.returns
returns c = one_fault
