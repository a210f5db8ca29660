use Rattle.bz_history.proofs.CertificateShapes.{certificates_have_their_shape}
use Rattle.bz_history.proofs.laws.certificates_have_their_shape.Goals as goal

pub returns : goal.returns
returns c = certificates_have_their_shape
