use Rattle.std.proofs.Common.{arith, ◌+◌}
use Rattle.std.specs.List.{enumerate_from}
use Rattle.bz_first.proofs.Facts.{within_numbers}
use Rattle.bz_first.proofs.Lists.{all_weaker}
use Rattle.bz_model.specs.Parting.{blocks_of}
use Rattle.bz_model.specs.PartPoints.{HasBlockShape}
use Rattle.bz_judge.proofs.points.judge_blocks.Goals as goal

pub judge_each-requires-clause-takes : goal.judge_each-requires-clause-takes
judge_each-requires-clause-takes c =
    let part = c.args.split.now.part in
    let count = c.requires.count in
    all_weaker _ _ (enumerate_from 1 c.args.blocks.now) (λ e h. (omega (arith, h.1), c.requires.x, h.2.1))
    (within_numbers (HasBlockShape part) 1 c.args.blocks.now 1 (blocks_of part + 1) (omega arith) (omega (arith, count)) c.requires.shapes)
