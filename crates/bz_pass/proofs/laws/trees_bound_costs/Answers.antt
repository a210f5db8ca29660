use Rattle.bz_pass.proofs.Judging.{tree_bounds}
use Rattle.bz_pass.proofs.laws.trees_bound_costs.Goals as goal

pub returns : goal.returns
returns c = tree_bounds
