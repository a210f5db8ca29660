use Rattle.bz_judge.specs.declared.CheckFault.TheVariants as fault
use Rattle.bz_tree.specs.Ends.{box_of}
use Rattle.bz_judge.specs.PointTests.{Tests}
use Rattle.bz_check.specs.CheckTests.{cuts_tests, tree_tests}
use Rattle.bz_check.specs.TreeGoals.{bounds_of}
use Rattle.bz_first.proofs.Chains.{unless_stopped, unless_then}
use Rattle.bz_check.proofs.whole.judge_bound.Goals as goal

pub returns-in_err-judge_cuts : goal.returns-in_err-judge_cuts
returns-in_err-judge_cuts c = λ tree is_tree.
    let cuts : Tests = cuts_tests c.args.split.now.model c.args.split.now.part c.args.cuts.now in
    let nodes : Tests = tree_tests c.args.split.now.model c.args.split.now.part c.args.cuts.now (bounds_of c.args.goal) (box_of c.args.root) 0 tree in
    unless_stopped fault.OutOfMemory cuts nodes c.in_err-judge_cuts.field-0.0 c.from_residual.result c.from_residual.ensures.1 c.in_err-judge_cuts.ensures

pub returns : goal.returns
returns c = λ tree is_tree.
    let cuts : Tests = cuts_tests c.args.split.now.model c.args.split.now.part c.args.cuts.now in
    let nodes : Tests = tree_tests c.args.split.now.model c.args.split.now.part c.args.cuts.now (bounds_of c.args.goal) (box_of c.args.root) 0 tree in
    unless_then fault.OutOfMemory cuts nodes c.judge_tree.result c.in_ok-judge_cuts.ensures (c.judge_tree.ensures tree is_tree)
