use Rattle.bz_cert.proofs.TextFaults.{no_fault}
use Rattle.bz_cert.proofs.laws.texts_have_no_fault.Goals as goal

pub returns : goal.returns
returns c = no_fault
