use Rattle.std.proofs.Common.{rules, FitsSigned, to_z-of_z}
use Rattle.std.specs.Int.{w128}
use Rattle.bz_model.specs.Parting.{inner_cost, terms_in}
use Rattle.bz_model.specs.PointSums.{row_pairs}
use Rattle.bz_judge.proofs.CostSums.{begun_ok, begun_wide}
use Rattle.bz_judge.proofs.costs.cost_sum.Goals as goal

pub returns-in_err-folding : goal.returns-in_err-folding
returns-in_err-folding c = begun_wide (row_pairs (terms_in c.args.split.now.part c.args.part (inner_cost c.args.split.now.model)) c.args.point.now) c.in_err-folding.field-0.0 c.from_residual.result c.from_residual.ensures.1 c.in_err-folding.ensures.begins

pub returns : goal.returns
returns c =
    let fits : FitsSigned w128 c.sum.result = search rules in
    rw (to_z-of_z fits, c.sum.ensures.value) (begun_ok (row_pairs (terms_in c.args.split.now.part c.args.part (inner_cost c.args.split.now.model)) c.args.point.now) c.in_ok-folding.folding c.in_ok-folding.ensures.begins)
