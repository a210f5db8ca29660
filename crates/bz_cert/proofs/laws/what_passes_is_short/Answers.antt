use Rattle.bz_cert.proofs.ShortLists.{passing_is_short}
use Rattle.bz_cert.proofs.laws.what_passes_is_short.Goals as goal

pub returns : goal.returns
returns c = λ certificate shaped some cuts nodes. passing_is_short some.split certificate some.is_split shaped cuts nodes some.passes
