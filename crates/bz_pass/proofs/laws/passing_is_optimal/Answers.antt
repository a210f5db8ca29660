use Rattle.bz_pass.proofs.Judging.{tree_optimal}
use Rattle.bz_pass.proofs.laws.passing_is_optimal.Goals as goal

pub returns : goal.returns
returns c = tree_optimal
