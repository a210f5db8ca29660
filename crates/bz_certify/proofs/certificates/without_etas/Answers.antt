use Rattle.std.proofs.Common.{rules, FitsSigned, to_z-of_z}
use Rattle.std.specs.Int.{w128}
use Rattle.bz_certify.proofs.Certified.{without_etas_is}
use Rattle.bz_certify.proofs.certificates.without_etas.Goals as goal

pub returns : goal.returns
returns c =
    let fits : FitsSigned w128 c.args.point.now.den = search rules in
    without_etas_is c.args.point.now _ (to_z-of_z fits) c.in_ok-copy.ensures c.none.ensures
