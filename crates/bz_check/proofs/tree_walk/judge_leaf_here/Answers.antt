-- The sides that are told by number are those of the leaf.
use Rattle.std.proofs.Common.{◌∙◌, subst, List, [], ◌∷◌}
use Rattle.bz_model.specs.declared.Ineq.{Ineq}
use Rattle.bz_first.specs.Tests.{AllHold, IsFirstFault, test}
use Rattle.bz_first.proofs.Chains.{stopped}
use Rattle.bz_first.proofs.TestLemmas.{judges_then}
use Rattle.bz_tree.specs.LeafSides.{sides_among}
use Rattle.bz_tree.specs.Leaves.{sides_of}
use Rattle.bz_tree.proofs.LeafSides.{sides_same}
use Rattle.bz_judge.specs.declared.CheckFault.TheVariants as fault
use Rattle.bz_judge.specs.LeafTests.{leaf_tests}
use Rattle.bz_check.specs.TreeGoals.{bounds_of}
use Rattle.bz_check.specs.Walks.{box_in}
use Rattle.bz_check.proofs.tree_walk.judge_leaf_here.Goals as goal

pub returns-in_err-judge_leaf : goal.returns-in_err-judge_leaf
returns-in_err-judge_leaf c =
    let m = c.args.trial.now.split.now.model in
    let part = c.args.trial.now.split.now.part in
    let cuts = c.args.trial.now.cuts.now in
    let same = sides_same m part (box_in c.args.walk.now) cuts in
    let f = c.in_err-judge_leaf.field-0.0 in
    let first : IsFirstFault (leaf_tests m part (sides_of m part (box_in c.args.walk.now) cuts) c.args.node c.args.leaf.now) f = subst (λ (sides : List Ineq). IsFirstFault (leaf_tests m part sides c.args.node c.args.leaf.now) f)
    ((λ i. sides_among (c.inequalities.ensures.value i) (c.args.trial.now.are_positions i) (record { lower = c.as_slice.ensures.value i; upper = c.as_slice-2.ensures.value i }) cuts) ∙ same)
    c.in_err-judge_leaf.ensures in
    stopped (leaf_tests m part (sides_of m part (box_in c.args.walk.now) cuts) c.args.node c.args.leaf.now) (test (fault.Leaf c.args.node) (bounds_of c.args.trial.now.goal c.args.leaf.now) ∷ []) f c.from_residual.result c.from_residual.ensures.1 first

pub returns : goal.returns
returns c =
    let m = c.args.trial.now.split.now.model in
    let part = c.args.trial.now.split.now.part in
    let cuts = c.args.trial.now.cuts.now in
    let same = sides_same m part (box_in c.args.walk.now) cuts in
    let hold : AllHold (leaf_tests m part (sides_of m part (box_in c.args.walk.now) cuts) c.args.node c.args.leaf.now) = subst (λ (sides : List Ineq). AllHold (leaf_tests m part sides c.args.node c.args.leaf.now))
    ((λ i. sides_among (c.inequalities.ensures.value i) (c.args.trial.now.are_positions i) (record { lower = c.as_slice.ensures.value i; upper = c.as_slice-2.ensures.value i }) cuts) ∙ same)
    c.in_ok-judge_leaf.ensures in
    judges_then (leaf_tests m part (sides_of m part (box_in c.args.walk.now) cuts) c.args.node c.args.leaf.now) (test (fault.Leaf c.args.node) (bounds_of c.args.trial.now.goal c.args.leaf.now) ∷ []) c.judge_goal.result hold c.judge_goal.ensures
