use Rattle.bz_model.specs.Points.{coordinate}
use Rattle.bz_model.specs.PointSums.{row_pairs}
use Rattle.bz_judge.proofs.FoundSums.{found_is_dot}
use Rattle.bz_judge.proofs.numbers.sum_at.Goals as goal

pub returns-clause-judges : goal.returns-clause-judges
returns-clause-judges c = c.judge_fold.ensures.judges (row_pairs c.args.row.now c.args.point.now) c.row_sum.ensures

pub returns-clause-value : goal.returns-clause-value
returns-clause-value c = found_is_dot c.args.row.now (coordinate c.args.point.now) c.row_sum.result c.judge_fold.result c.row_sum.ensures c.judge_fold.ensures.sum
