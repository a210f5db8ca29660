use Rattle.bz_cert.proofs.RoundTrip.{read_back}
use Rattle.bz_cert.proofs.laws.what_is_written_is_read.Goals as goal

pub returns : goal.returns
returns c = read_back
