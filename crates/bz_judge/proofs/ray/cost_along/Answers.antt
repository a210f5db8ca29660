use Rattle.bz_model.specs.Parting.{inner_cost}
use Rattle.bz_model.specs.Points.{coordinate}
use Rattle.bz_model.specs.PointSums.{row_pairs}
use Rattle.bz_judge.proofs.FoundSums.{found_is_dot}
use Rattle.bz_judge.proofs.ray.cost_along.Goals as goal

pub returns-clause-judges : goal.returns-clause-judges
returns-clause-judges c = c.judge_fold.ensures.judges (row_pairs (inner_cost c.args.model.now) c.args.ray.now) c.ray_cost.ensures

pub returns-clause-value : goal.returns-clause-value
returns-clause-value c = found_is_dot (inner_cost c.args.model.now) (coordinate c.args.ray.now) c.ray_cost.result c.judge_fold.result c.ray_cost.ensures c.judge_fold.ensures.sum
