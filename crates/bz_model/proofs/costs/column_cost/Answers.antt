use Rattle.std.proofs.Common.{rules, sym, FitsSigned, to_z-of_z}
use Rattle.std.specs.Int.{w128}
use Rattle.bz_model.proofs.PartCosts.{coef_turned}
use Rattle.bz_model.proofs.costs.column_cost.Goals as goal

pub returns-clause-value : goal.returns-clause-value
returns-clause-value c =
    let fits : FitsSigned w128 c.at.result = search rules in
    let fits_too : FitsSigned w128 c.inner_number.result = search rules in
    rw (to_z-of_z fits_too, c.inner_number.ensures.value, to_z-of_z fits, c.at.ensures.value) (sym (coef_turned c.args.model.now.maximise c.args.model.now.cost c.args.column))
