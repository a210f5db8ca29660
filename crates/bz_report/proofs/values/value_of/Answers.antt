use Rattle.std.proofs.Common.{rules, ◌∙◌, FitsSigned, to_z-of_z}
use Rattle.std.specs.Int.{w128}
use Rattle.bz_num.proofs.NarrowSums.{wide_where_err}
use Rattle.bz_model.specs.Parting.{inner_cost, terms_in}
use Rattle.bz_model.specs.PointSums.{value_pairs}
use Rattle.bz_judge.proofs.FoundSums.{value_found}
use Rattle.bz_report.proofs.values.value_of.Goals as goal

pub unreachable-requires : goal.unreachable-requires
unreachable-requires c = wide_where_err (value_pairs (terms_in c.args.split.now.part 0 (inner_cost c.args.split.now.model)) c.args.parts.now.master) c.value_sum.result c.in_default.field-0 c.value_sum.ensures c.in_default.is c.requires.fits.0

pub returns : goal.returns
returns c =
    let fits : FitsSigned w128 c.in-Ok.value = search rules in
    to_z-of_z fits ∙ value_found (terms_in c.args.split.now.part 0 (inner_cost c.args.split.now.model)) c.args.parts.now.master c.value_sum.result c.in-Ok.value c.value_sum.ensures c.in-Ok.is
