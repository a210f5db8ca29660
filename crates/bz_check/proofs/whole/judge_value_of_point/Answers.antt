use Rattle.std.proofs.Common.{arith, [], ◌∷◌, ◌++◌, to_z-of_z}
use Rattle.std.specs.List.{enumerate_from}
use Rattle.bz_first.specs.Tests.{AllHold, IsFirstFault, each_of, test}
use Rattle.bz_first.proofs.TestLemmas.{all_joined, fault_behind, fault_in_front, judges_then}
use Rattle.bz_tree.specs.Ends.{box_of}
use Rattle.bz_model.specs.PartPoints.{HasShape}
use Rattle.bz_judge.specs.declared.CheckFault.{CheckFault}
use Rattle.bz_judge.specs.declared.CheckFault.TheVariants as fault
use Rattle.bz_judge.specs.PointTests.{Tests, point_tests}
use Rattle.bz_judge.specs.ValueTests.{cost_tests, value_tests}
use Rattle.bz_first.proofs.Chains.{stopped}
use Rattle.bz_check.proofs.whole.judge_value_of_point.Goals as goal

pub judge_costs-requires-clause-few : goal.judge_costs-requires-clause-few
judge_costs-requires-clause-few c =
    rw c.as_slice.ensures (omega (arith, c.in_ok-judge_shape.ensures.0.point.blocks, c.in_ok-judge_point.ensures.split.partition.few))

pub returns-in_err-judge_point : goal.returns-in_err-judge_point
returns-in_err-judge_point c =
    let m = c.args.split.now.model in
    let part = c.args.split.now.part in
    let parts = c.args.parts.now in
    let shape : Tests = test fault.Shape (HasShape m part parts) ∷ [] in
    let point : Tests = point_tests m part (box_of c.args.root.now) parts in
    let costs : Tests = each_of (cost_tests m part parts.master) (enumerate_from 1 parts.blocks) in
    let value : Tests = value_tests m part parts.master c.args.value in
    let f : CheckFault = c.in_err-judge_point.field-0.0 in
    stopped ((shape ++ point) ++ costs) value f c.from_residual-in_err-judge_point.result c.from_residual-in_err-judge_point.ensures.1
    (fault_in_front (shape ++ point) costs f (fault_behind shape point f c.in_ok-judge_shape.ensures c.in_err-judge_point.ensures.judges))

pub returns-in_err-judge_costs : goal.returns-in_err-judge_costs
returns-in_err-judge_costs c =
    let m = c.args.split.now.model in
    let part = c.args.split.now.part in
    let parts = c.args.parts.now in
    let shape : Tests = test fault.Shape (HasShape m part parts) ∷ [] in
    let point : Tests = point_tests m part (box_of c.args.root.now) parts in
    let costs : Tests = each_of (cost_tests m part parts.master) (enumerate_from 1 parts.blocks) in
    let value : Tests = value_tests m part parts.master c.args.value in
    let f : CheckFault = c.in_err-judge_costs.field-0.0 in
    let fault : IsFirstFault costs f = rw c.as_slice.ensures at c.in_err-judge_costs.ensures in
    stopped ((shape ++ point) ++ costs) value f c.from_residual-in_err-judge_costs.result c.from_residual-in_err-judge_costs.ensures.1
    (fault_behind (shape ++ point) costs f (all_joined shape point c.in_ok-judge_shape.ensures c.in_ok-judge_point.ensures.judges) fault)

pub returns : goal.returns
returns c =
    let m = c.args.split.now.model in
    let part = c.args.split.now.part in
    let parts = c.args.parts.now in
    let shape : Tests = test fault.Shape (HasShape m part parts) ∷ [] in
    let point : Tests = point_tests m part (box_of c.args.root.now) parts in
    let costs : Tests = each_of (cost_tests m part parts.master) (enumerate_from 1 parts.blocks) in
    let value : Tests = value_tests m part parts.master c.args.value in
    let hold : AllHold costs = rw c.as_slice.ensures at c.in_ok-judge_costs.ensures in
    judges_then ((shape ++ point) ++ costs) value c.judge_value.result
    (all_joined (shape ++ point) costs (all_joined shape point c.in_ok-judge_shape.ensures c.in_ok-judge_point.ensures.judges) hold)
    (rw (to_z-of_z c.ranges.value) at c.judge_value.ensures)
