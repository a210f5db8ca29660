use Rattle.std.proofs.Common.{◌≡◌, [], ◌∷◌, ◌++◌, length}
use Rattle.bz_first.specs.Tests.{AllHold, test}
use Rattle.bz_first.proofs.TestLemmas.{all_joined, fault_behind, judges_then}
use Rattle.bz_tree.specs.Ends.{box_of}
use Rattle.bz_model.specs.PartPoints.{HasPointShape}
use Rattle.bz_judge.specs.declared.CheckFault.{CheckFault}
use Rattle.bz_judge.specs.declared.CheckFault.TheVariants as fault
use Rattle.bz_judge.specs.PointTests.{Tests, point_tests}
use Rattle.bz_judge.specs.RayTests.{ray_tests}
use Rattle.bz_first.proofs.Chains.{stopped}
use Rattle.bz_check.proofs.whole.judge_unbounded.Goals as goal

pub returns-in_err-judge_point : goal.returns-in_err-judge_point
returns-in_err-judge_point c =
    let m = c.args.split.now.model in
    let part = c.args.split.now.part in
    let shape : Tests = test fault.Shape (HasPointShape m part c.args.parts.now × (length c.args.c.now.ray ≡ length m.columns)) ∷ [] in
    let point : Tests = point_tests m part (box_of c.args.root.now) c.args.parts.now in
    let ray : Tests = ray_tests m c.args.c.now.ray in
    let f : CheckFault = c.in_err-judge_point.field-0.0 in
    let hold : AllHold shape = rw c.as_slice-ray.ensures at c.in_ok-judge_ray_shape.ensures in
    stopped (shape ++ point) ray f c.from_residual-in_err-judge_point.result c.from_residual-in_err-judge_point.ensures.1 (fault_behind shape point f hold c.in_err-judge_point.ensures.judges)

pub returns : goal.returns
returns c =
    let m = c.args.split.now.model in
    let part = c.args.split.now.part in
    let shape : Tests = test fault.Shape (HasPointShape m part c.args.parts.now × (length c.args.c.now.ray ≡ length m.columns)) ∷ [] in
    let point : Tests = point_tests m part (box_of c.args.root.now) c.args.parts.now in
    let ray : Tests = ray_tests m c.args.c.now.ray in
    let hold : AllHold shape = rw c.as_slice-ray.ensures at c.in_ok-judge_ray_shape.ensures in
    judges_then (shape ++ point) ray c.judge_ray.result (all_joined shape point hold c.in_ok-judge_point.ensures.judges) (rw c.as_slice-ray.ensures at c.judge_ray.ensures)
