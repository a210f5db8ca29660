use Rattle.std.proofs.Common.{rules, FitsSigned, to_z-of_z}
use Rattle.std.specs.Int.{w128}
use Rattle.bz_num.specs.Lowest.{IsLowest}
use Rattle.bz_model.proofs.Lowest.{reduced}
use Rattle.bz_model.proofs.objective.lowest.Goals as goal

pub returns-clause-same : goal.returns-clause-same
returns-clause-same c =
    let num : FitsSigned w128 c.reduced-fraction.result.num = search rules in
    let den : FitsSigned w128 c.reduced-fraction.result.den = search rules in
    let lowest : IsLowest c.args.num c.args.den c.reduced-fraction.result = rw (to_z-of_z c.ranges.num, to_z-of_z c.ranges.den) at c.reduced-fraction.ensures in
    rw (to_z-of_z num, to_z-of_z den) lowest.value

pub returns-clause-reduced : goal.returns-clause-reduced
returns-clause-reduced c =
    let num : FitsSigned w128 c.reduced-fraction.result.num = search rules in
    let den : FitsSigned w128 c.reduced-fraction.result.den = search rules in
    rw (to_z-of_z num, to_z-of_z den) (reduced _ _ c.reduced-fraction.result c.reduced-fraction.ensures)
