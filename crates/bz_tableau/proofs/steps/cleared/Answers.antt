-- The products that were formed are the products, and so is their difference.
use Rattle.std.proofs.Common.{FitsSigned, to_z-of_z, rules}
use Rattle.std.specs.Int.{w128}
use Rattle.bz_tableau.proofs.Clearing.{step_is}
use Rattle.bz_tableau.proofs.steps.cleared.Goals as goal

pub returns-in-Some-narrow_product : goal.returns-in-Some-narrow_product
returns-in-Some-narrow_product c =
    let kept_fits : FitsSigned w128 c.args.kept = c.ranges.kept in
    let number_fits : FitsSigned w128 c.args.number = c.ranges.number in
    let taken_fits : FitsSigned w128 c.args.taken = c.ranges.taken in
    let pivot_fits : FitsSigned w128 c.args.pivot = c.ranges.pivot in
    let left_fits : FitsSigned w128 c.in-Some.left = search rules in
    let right_fits : FitsSigned w128 c.in-Some-narrow_product.right = search rules in
    let left = rw (to_z-of_z kept_fits, to_z-of_z number_fits) at c.in-Some.ensures in
    let right = rw (to_z-of_z taken_fits, to_z-of_z pivot_fits) at c.in-Some-narrow_product.ensures in
    let difference = rw (to_z-of_z left_fits, to_z-of_z right_fits, left.1, right.1) at c.narrow_difference.ensures in
    step_is c.args.kept c.args.number c.args.taken c.args.pivot c.narrow_difference.result left.0 right.0 difference
