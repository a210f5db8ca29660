use Rattle.bz_cert.proofs.TextsOnce.{one_certificate, one_text}
use Rattle.bz_cert.proofs.laws.text_has_one_certificate.Goals as goal

pub returns : goal.returns
returns c = record { certificate = one_certificate; text = one_text }
