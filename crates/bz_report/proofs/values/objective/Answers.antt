use Rattle.std.proofs.Common.{rules, ◌∙◌, FitsSigned, to_z-of_z}
use Rattle.std.specs.Int.{w128}
use Rattle.bz_report.proofs.PartValues.{stated_is_lowest}
use Rattle.bz_report.proofs.values.objective.Goals as goal

pub returns : goal.returns
returns c =
    let value : FitsSigned w128 c.value_of-value.result = search rules in
    let den : FitsSigned w128 c.args.parts.now.master.den = search rules in
    stated_is_lowest c.args.split.now c.args.parts.now _ _ _ c.in-Some.stated c.model.ensures.value (to_z-of_z value ∙ c.value_of-value.ensures) (to_z-of_z den) c.requires.shape.den c.in-Some.ensures.same c.in-Some.ensures.reduced
