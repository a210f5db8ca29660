use Rattle.bz_std.proofs.OnePosed as lemmas
use Rattle.bz_std.proofs.laws.one_posed.Goals as goal

pub returns : goal.returns
returns c = lemmas.one_posed
