use Rattle.std.proofs.Common.{length}
use Rattle.bz_algebra.specs.Sums.{AllBelow}
use Rattle.bz_first.proofs.Facts.{with_numbers}
use Rattle.bz_judge.proofs.points.judge_master_rows.Goals as goal

pub judge_each-requires-clause-takes : goal.judge_each-requires-clause-takes
judge_each-requires-clause-takes c = with_numbers (λ i. AllBelow (length c.args.master.now.x) i.own) 0 c.args.rows.now c.requires.within
