use Rattle.bz_history.proofs.CertificateTrees.{certificates_are_right}
use Rattle.bz_history.proofs.laws.certificates_are_right.Goals as goal

pub returns : goal.returns
returns c = certificates_are_right
