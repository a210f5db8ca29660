use Rattle.bz_cert.proofs.TextsTold.{text_told}
use Rattle.bz_cert.proofs.laws.each_text_has_an_outcome.Goals as goal

pub returns : goal.returns
returns c = text_told
