use Rattle.bz_pass.proofs.Judging.{tree_refutes}
use Rattle.bz_pass.proofs.laws.passing_is_infeasible.Goals as goal

pub returns : goal.returns
returns c = tree_refutes
