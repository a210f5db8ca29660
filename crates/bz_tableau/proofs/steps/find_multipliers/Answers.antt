-- The divisor of a number that isn't 0 isn't 0, and it divides both.
use Rattle.std.proofs.Common.{rules, FitsSigned, to_z-of_z}
use Rattle.std.specs.Int.{w128}
use Rattle.bz_tableau.proofs.Clearing.{gcd_nonzero, multipliers_are}
use Rattle.bz_tableau.proofs.steps.find_multipliers.Goals as goal

pub exact_quotient-requires-clause-nonzero : goal.exact_quotient-requires-clause-nonzero
exact_quotient-requires-clause-nonzero c =
    let fits : FitsSigned w128 c.gcd-divisor.result = search rules in
    let pivot_fits : FitsSigned w128 c.args.pivot = c.ranges.pivot in
    let number_fits : FitsSigned w128 c.args.number = c.ranges.number in
    let divides = rw (to_z-of_z pivot_fits, to_z-of_z number_fits) at c.gcd-divisor.ensures.divides in
    rw (to_z-of_z fits) (gcd_nonzero c.args.pivot c.args.number c.gcd-divisor.result c.requires.nonzero divides)

pub exact_quotient-requires-clause-divides : goal.exact_quotient-requires-clause-divides
exact_quotient-requires-clause-divides c =
    let fits : FitsSigned w128 c.gcd-divisor.result = search rules in
    rw (to_z-of_z fits) c.gcd-divisor.ensures.divides.0

pub exact_quotient-requires-2-clause-divides : goal.exact_quotient-requires-2-clause-divides
exact_quotient-requires-2-clause-divides c =
    let fits : FitsSigned w128 c.gcd-divisor.result = search rules in
    rw (to_z-of_z fits) c.gcd-divisor.ensures.divides.1

pub returns-clause-multipliers : goal.returns-clause-multipliers
returns-clause-multipliers c =
    let fits : FitsSigned w128 c.gcd-divisor.result = search rules in
    let pivot_fits : FitsSigned w128 c.args.pivot = c.ranges.pivot in
    let number_fits : FitsSigned w128 c.args.number = c.ranges.number in
    let kept_fits : FitsSigned w128 c.exact_quotient.result = search rules in
    let taken_fits : FitsSigned w128 c.exact_quotient-2.result = search rules in
    let divides = rw (to_z-of_z pivot_fits, to_z-of_z number_fits) at c.gcd-divisor.ensures.divides in
    let kept = rw (to_z-of_z fits, to_z-of_z pivot_fits) at c.exact_quotient.ensures.value in
    let taken = rw (to_z-of_z fits, to_z-of_z number_fits) at c.exact_quotient-2.ensures.value in
    rw (to_z-of_z kept_fits, to_z-of_z taken_fits) (multipliers_are c.args.pivot c.args.number c.gcd-divisor.result c.exact_quotient.result c.exact_quotient-2.result c.gcd-divisor.ensures.sign divides kept taken)
