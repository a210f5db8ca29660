-- Each turn divides one number more.
use Rattle.std.proofs.Common.{◌≡◌, rules, arith, refl, sym, ◌∙◌, FitsSigned, to_z, of_z, to_z-of_z, pos}
use Rattle.std.specs.Int.{w128}
use Rattle.std.specs.Int.RustNames.{unsigned_abs}
use Rattle.bz_num.specs.Dense.{entry}
use Rattle.bz_num.proofs.DenseRows.{divided-by_one, divides_left, divided-more}
use Rattle.bz_num.proofs.division.divide_all.Goals as goal

pub returns-then-divisor-eq1 : goal.returns-then-divisor-eq1
returns-then-divisor-eq1 c =
    let one : to_z w128 (of_z w128 c.args.divisor) ≡ pos 1 = rw c.if-divisor-eq1.true refl in
    divided-by_one c.args.divisor c.args.row.now (sym (to_z-of_z c.ranges.divisor) ∙ one) c.requires.narrow

pub exact_quotient-requires-clause-divides : goal.exact_quotient-requires-clause-divides
exact_quotient-requires-clause-divides c =
    let fits : FitsSigned w128 c.args.divisor = c.ranges.divisor in
    let number_fits : FitsSigned w128 (entry c.loop-j.row c.loop-j.j) = search rules in
    let known = rw (to_z-of_z fits) at c.loop-j.invariant in
    rw (to_z-of_z fits, to_z-of_z number_fits) (divides_left c.loop-j.j (unsigned_abs c.args.divisor) c.args.divisor c.args.row.now c.loop-j.row known c.requires.divides (omega arith))

pub loop-j-preserved : goal.loop-j-preserved
loop-j-preserved c =
    let fits : FitsSigned w128 c.args.divisor = c.ranges.divisor in
    let number_fits : FitsSigned w128 (entry c.loop-j.row c.loop-j.j) = search rules in
    let quotient_fits : FitsSigned w128 c.exact_quotient.result = search rules in
    let known = rw (to_z-of_z fits) at c.loop-j.invariant in
    let value = rw (to_z-of_z fits, to_z-of_z number_fits) at c.exact_quotient.ensures.value in
    rw (to_z-of_z fits, to_z-of_z quotient_fits) (divided-more c.loop-j.j c.args.divisor c.args.row.now c.loop-j.row c.exact_quotient.result known (omega arith) value c.exact_quotient.ensures.narrow)
