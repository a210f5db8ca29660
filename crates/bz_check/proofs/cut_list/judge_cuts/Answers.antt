use Rattle.std.proofs.Common.{arith, ◌<◌, length}
use Rattle.std.specs.List.{enumerate_from}
use Rattle.bz_first.proofs.Lists.{all_weaker}
use Rattle.bz_model.proofs.MeetingParts.{numbers_within}
use Rattle.bz_check.proofs.cut_list.judge_cuts.Goals as goal

pub judge_each-requires-clause-takes : goal.judge_each-requires-clause-takes
judge_each-requires-clause-takes c =
    let cuts = c.args.cuts.now in
    all_weaker (λ e. e.0 < length cuts) _ (enumerate_from 0 cuts) (λ e h. tt) (numbers_within 0 (length cuts) cuts (omega arith))
