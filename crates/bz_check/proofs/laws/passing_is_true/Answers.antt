use Rattle.bz_check.proofs.AllTests.{has_point, infeasible_means, optimal_means, unbounded_means}
use Rattle.bz_check.proofs.laws.passing_is_true.Goals as goal

pub returns : goal.returns
returns c = record { optimal = optimal_means; point = has_point; infeasible = infeasible_means; unbounded = unbounded_means }
