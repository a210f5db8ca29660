use Rattle.std.proofs.Common.{arith, length}
use Rattle.bz_model.proofs.MeetingParts.{numbers_within}
use Rattle.bz_judge.proofs.ray.judge_integers.Goals as goal

pub judge_each-requires-clause-takes : goal.judge_each-requires-clause-takes
judge_each-requires-clause-takes c = numbers_within 0 (length c.args.ray.now) c.args.columns.now (omega (arith, c.requires.length))
