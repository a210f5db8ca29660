use Rattle.std.proofs.Common.{length}
use Rattle.bz_algebra.specs.Sums.{AllBelow}
use Rattle.bz_first.proofs.Facts.{with_numbers}
use Rattle.bz_judge.proofs.ray.judge_ray_rows.Goals as goal

pub judge_each-requires-clause-takes : goal.judge_each-requires-clause-takes
judge_each-requires-clause-takes c = with_numbers (λ row. AllBelow (length c.args.ray.now) row.terms) 0 c.args.rows.now c.requires.within
