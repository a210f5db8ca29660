use Rattle.std.proofs.Common.{rules, FitsSigned, to_z-of_z}
use Rattle.std.specs.Int.{w128}
use Rattle.bz_num.proofs.NarrowSums.{dot_where_ok}
use Rattle.bz_cut.proofs.SumTests.{sum_judged}
use Rattle.bz_cut.proofs.judging.judge_sum.Goals as goal

pub returns : goal.returns
returns g c = λ multipliers f same.
    let narrow = c.in_ok-found.ensures.judges _ same in
    let found = dot_where_ok multipliers f c.args.sum _ same c.in_ok-found.ensures.sum in
    let fits : FitsSigned w128 c.in_ok-found.found = search rules in
    let fits_too : FitsSigned w128 c.args.number = c.ranges.number in
    sum_judged c.args.broken c.args.wide multipliers f c.in_ok-found.found c.args.number c.judge_equal.result narrow.0 found (rw (to_z-of_z fits, to_z-of_z fits_too) at c.judge_equal.ensures)
