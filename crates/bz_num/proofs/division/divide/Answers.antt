use Rattle.std.proofs.Common.{rules, FitsSigned, to_z-of_z}
use Rattle.std.specs.Int.{w128}
use Rattle.bz_num.proofs.Rounding.{whole_euclid}
use Rattle.bz_num.proofs.division.divide.Goals as goal

pub returns-clause-whole : goal.returns-clause-whole
returns-clause-whole c =
    let quotient_fits : FitsSigned w128 c.div_euclid.result = search rules in
    let rest_fits : FitsSigned w128 c.rem_euclid.result = search rules in
    rw (to_z-of_z quotient_fits, to_z-of_z rest_fits, c.div_euclid.ensures, c.rem_euclid.ensures.value, to_z-of_z c.ranges.num, to_z-of_z c.ranges.den) (whole_euclid c.args.num c.args.den c.requires)
