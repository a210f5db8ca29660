use Rattle.std.proofs.Common.{rules, FitsSigned, to_z-of_z}
use Rattle.std.specs.Int.{w128}
use Rattle.bz_num.specs.Lowest.{IsLowest}
use Rattle.bz_report.proofs.PartValues.{reduced_is_lowest}
use Rattle.bz_report.proofs.values.in_lowest_terms.Goals as goal

pub returns : goal.returns
returns c =
    let num : FitsSigned w128 c.reduced-fraction.result.num = search rules in
    let den : FitsSigned w128 c.reduced-fraction.result.den = search rules in
    let low : IsLowest c.args.num c.args.den c.reduced-fraction.result = rw (to_z-of_z c.ranges.num, to_z-of_z c.ranges.den) at c.reduced-fraction.ensures in
    rw (to_z-of_z num, to_z-of_z den) (reduced_is_lowest c.args.num c.args.den c.reduced-fraction.result c.requires.positive low)
