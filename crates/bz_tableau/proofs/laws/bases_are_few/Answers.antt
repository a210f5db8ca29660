use Rattle.bz_algebra.proofs.Counting.{count_bases}
use Rattle.bz_tableau.proofs.laws.bases_are_few.Goals as goal

pub returns : goal.returns
returns c = count_bases
