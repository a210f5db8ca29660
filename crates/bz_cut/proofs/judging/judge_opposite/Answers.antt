use Rattle.std.proofs.Common.{rules, ◌≡◌, ◌*ℤ◌, neg_ℤ, FitsSigned, to_z-of_z}
use Rattle.std.specs.Int.{w128}
use Rattle.bz_num.proofs.NarrowSums.{dot_where_ok}
use Rattle.bz_cut.proofs.SumTests.{equation_judged}
use Rattle.bz_cut.proofs.judging.judge_opposite.Goals as goal

pub returns : goal.returns
returns g c = λ multipliers f same.
    let narrow = c.in_ok-found.ensures.judges _ same in
    let found = dot_where_ok multipliers f c.args.sum _ same c.in_ok-found.ensures.sum in
    let fits : FitsSigned w128 c.in_ok-found.found = search rules in
    let fits_too : FitsSigned w128 c.in_ok-product.product = search rules in
    let product : c.in_ok-product.product ≡ c.args.a *ℤ c.args.b = rw (to_z-of_z c.ranges.a, to_z-of_z c.ranges.b) at c.in_ok-product.ensures.product in
    let fits_turned : FitsSigned w128 c.narrow_negation.result = search rules in
    let turned : c.narrow_negation.result ≡ neg_ℤ (c.args.a *ℤ c.args.b) = rw (to_z-of_z fits_too, product) at c.narrow_negation.ensures.value in
    let small = rw (to_z-of_z c.ranges.a, to_z-of_z c.ranges.b) at c.in_ok-product.ensures.judges in
    equation_judged c.args.broken c.args.wide multipliers f c.in_ok-found.found (c.args.a *ℤ c.args.b) (neg_ℤ (c.args.a *ℤ c.args.b)) c.judge_equal.result narrow.0 found small.0 (rw (to_z-of_z fits, to_z-of_z fits_turned, turned) at c.judge_equal.ensures)
