use Rattle.bz_history.proofs.Stamps.{counts_rise}
use Rattle.bz_history.proofs.laws.counts_rise.Goals as goal

pub returns : goal.returns
returns c = counts_rise
