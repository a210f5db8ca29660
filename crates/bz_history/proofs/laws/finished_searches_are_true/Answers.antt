use Rattle.bz_history.proofs.FinishedSearches.{finished_searches_are_true}
use Rattle.bz_history.proofs.laws.finished_searches_are_true.Goals as goal

pub returns : goal.returns
returns c = finished_searches_are_true
