use Rattle.std.proofs.Common.{rules, ◌∷◌, ◌++◌, FitsSigned, to_z-of_z}
use Rattle.std.specs.Int.{w128}
use Rattle.std.specs.List.{enumerate_from}
use Rattle.bz_first.specs.Tests.{AllHold, IsFirstFault, each_of, test}
use Rattle.bz_first.proofs.TestLemmas.{fault_in_front}
use Rattle.bz_tree.specs.Ends.{box_of}
use Rattle.bz_tree.specs.Trees.{Reaches}
use Rattle.bz_model.specs.PartPoints.{HasShape}
use Rattle.bz_judge.specs.declared.CheckFault.{CheckFault}
use Rattle.bz_judge.specs.declared.CheckFault.TheVariants as fault
use Rattle.bz_judge.specs.PointTests.{Tests, point_tests}
use Rattle.bz_judge.specs.ValueTests.{cost_tests, value_tests}
use Rattle.bz_check.specs.CheckTests.{cuts_tests, tree_tests}
use Rattle.bz_first.proofs.Chains.{unless_stopped, unless_then_two}
use Rattle.bz_check.proofs.whole.judge_optimal.Goals as goal

pub returns-in_err-judge_value_of_point : goal.returns-in_err-judge_value_of_point
returns-in_err-judge_value_of_point c = λ tree is_tree.
    let m = c.args.split.now.model in
    let part = c.args.split.now.part in
    let parts = c.args.parts.now in
    let box = box_of c.args.root in
    let fits : FitsSigned w128 c.args.c.now.value = search rules in
    let front : Tests = test fault.Shape (HasShape m part parts) ∷ point_tests m part box parts ++ each_of (cost_tests m part parts.master) (enumerate_from 1 parts.blocks) ++ value_tests m part parts.master c.args.c.now.value in
    let cuts : Tests = cuts_tests m part c.args.c.now.cuts in
    let nodes : Tests = tree_tests m part c.args.c.now.cuts (Reaches c.args.c.now.value parts.master.den) box 0 tree in
    let f : CheckFault = c.in_err-judge_value_of_point.field-0.0 in
    let first : IsFirstFault front f = rw (to_z-of_z fits) at c.in_err-judge_value_of_point.ensures in
    unless_stopped fault.OutOfMemory (front ++ cuts) nodes f c.from_residual.result c.from_residual.ensures.1 (fault_in_front front cuts f first)

pub returns : goal.returns
returns c = λ tree is_tree.
    let m = c.args.split.now.model in
    let part = c.args.split.now.part in
    let parts = c.args.parts.now in
    let box = box_of c.args.root in
    let fits : FitsSigned w128 c.args.c.now.value = search rules in
    let fits_den : FitsSigned w128 parts.master.den = search rules in
    let front : Tests = test fault.Shape (HasShape m part parts) ∷ point_tests m part box parts ++ each_of (cost_tests m part parts.master) (enumerate_from 1 parts.blocks) ++ value_tests m part parts.master c.args.c.now.value in
    let cuts : Tests = cuts_tests m part c.args.c.now.cuts in
    let nodes : Tests = tree_tests m part c.args.c.now.cuts (Reaches c.args.c.now.value parts.master.den) box 0 tree in
    let hold : AllHold front = rw (to_z-of_z fits) at c.in_ok-judge_value_of_point.ensures in
    unless_then_two fault.OutOfMemory front cuts nodes c.judge_bound.result hold
    (rw (c.as_slice.ensures, to_z-of_z fits, to_z-of_z fits_den) at (c.judge_bound.ensures tree (rw c.as_slice-2.ensures is_tree)))
