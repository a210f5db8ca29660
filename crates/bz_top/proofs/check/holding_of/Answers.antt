-- What is said of an optimum has the parts that were found.
use Rattle.std.proofs.Common.{rules, FitsSigned, to_z-of_z}
use Rattle.std.specs.Int.{w128}
use Rattle.bz_top.proofs.check.holding_of.Goals as goal

pub returns-in-Some-clause-says : goal.returns-in-Some-clause-says
returns-in-Some-clause-says c =
    let fits_value : FitsSigned w128 c.args.certificate.now.value = search rules in
    let fits_den : FitsSigned w128 c.in-Optimal-Some.parts.master.den = search rules in
    (c.in-Optimal-Some.is-0, (c.in-Optimal-Some.parts, c.in-Optimal-Some.is-1, rw (to_z-of_z fits_value, to_z-of_z fits_den, c.model-model.ensures.value) at c.in-Some.ensures.same, c.in-Some.ensures.reduced))
