-- What the greatest common divisor leaves of the one, times the other.
use Rattle.std.proofs.Common.{◌<ℤ◌, ◌≢◌, pos, ◌*ℤ◌, arith, rules, FitsSigned, to_z-of_z}
use Rattle.std.proofs.lemmas.Int.{ints}
use Rattle.std.specs.Int.{w128}
use Rattle.bz_algebra.proofs.Ring.{positive-ne, by_sign}
use Rattle.bz_tableau.proofs.Clearing.{gcd_nonzero}
use Rattle.bz_lex.proofs.LeastMultiples.{least_of_two, multiple_outcome}
use Rattle.bz_lex.proofs.multiples.multiple.Goals as goal

pub exact_quotient-requires-clause-nonzero : goal.exact_quotient-requires-clause-nonzero
exact_quotient-requires-clause-nonzero c =
    let fits : FitsSigned w128 c.gcd.result = search rules in
    let a_fits : FitsSigned w128 c.args.a = c.ranges.a in
    let b_fits : FitsSigned w128 c.args.b = c.ranges.b in
    let divides = rw (to_z-of_z a_fits, to_z-of_z b_fits) at c.gcd.ensures.divides in
    rw (to_z-of_z fits) (gcd_nonzero c.args.a c.args.b c.gcd.result (positive-ne c.args.a c.requires.left) divides)

pub exact_quotient-requires-clause-divides : goal.exact_quotient-requires-clause-divides
exact_quotient-requires-clause-divides c =
    let fits : FitsSigned w128 c.gcd.result = search rules in
    rw (to_z-of_z fits) c.gcd.ensures.divides.0

pub returns : goal.returns
returns c =
    let fits : FitsSigned w128 c.gcd.result = search rules in
    let quotient_fits : FitsSigned w128 c.exact_quotient.result = search rules in
    let a_fits : FitsSigned w128 c.args.a = c.ranges.a in
    let b_fits : FitsSigned w128 c.args.b = c.ranges.b in
    let divides = rw (to_z-of_z a_fits, to_z-of_z b_fits) at c.gcd.ensures.divides in
    let nonzero : c.gcd.result ≢ pos 0 = gcd_nonzero c.args.a c.args.b c.gcd.result (positive-ne c.args.a c.requires.left) divides in
    let some : (pos 0) <ℤ c.gcd.result = by_sign c.gcd.result (λ n. absurd (omega (arith, ints, c.gcd.ensures.sign))) (λ z. absurd (nonzero z)) (λ p. p) in
    let quotient = rw (to_z-of_z fits, to_z-of_z a_fits) at c.exact_quotient.ensures.value in
    let product = rw (to_z-of_z quotient_fits, to_z-of_z b_fits) at c.narrow_product.ensures in
    multiple_outcome c.args.a c.args.b (c.exact_quotient.result *ℤ c.args.b) c.narrow_product.result (least_of_two c.args.a c.args.b c.gcd.result c.exact_quotient.result c.requires.left c.requires.right some divides quotient) product
