use Rattle.std.proofs.Common.{rules, FitsSigned, to_z-of_z}
use Rattle.std.specs.Int.{w128}
use Rattle.bz_lex.proofs.BasicValues.{over_outcome}
use Rattle.bz_lex.proofs.values.value_over.Goals as goal

pub exact_quotient-requires-clause-divides : goal.exact_quotient-requires-clause-divides
exact_quotient-requires-clause-divides c =
    let den_fits : FitsSigned w128 c.args.den = c.ranges.den in
    let entry_fits : FitsSigned w128 c.args.entry = c.ranges.entry in
    rw (to_z-of_z den_fits, to_z-of_z entry_fits) c.requires.divides

pub returns : goal.returns
returns c =
    let den_fits : FitsSigned w128 c.args.den = c.ranges.den in
    let entry_fits : FitsSigned w128 c.args.entry = c.ranges.entry in
    let number_fits : FitsSigned w128 c.args.number = c.ranges.number in
    let times_fits : FitsSigned w128 c.exact_quotient.result = search rules in
    let quotient = rw (to_z-of_z den_fits, to_z-of_z entry_fits) at c.exact_quotient.ensures.value in
    let product = rw (to_z-of_z number_fits, to_z-of_z times_fits) at c.narrow_product.ensures in
    over_outcome c.args.den c.args.entry c.args.number c.exact_quotient.result c.narrow_product.result quotient product
