use Rattle.std.proofs.Common.{rules, FitsSigned, to_z-of_z}
use Rattle.std.specs.Int.{w128}
use Rattle.bz_check.specs.TreeGoals.{bounds_of}
use Rattle.bz_tree.proofs.SplitColumns.{place_is}
use Rattle.bz_check.proofs.Visiting.{leaf_visits, split_visits}
use Rattle.bz_check.proofs.tree_walk.visit.Goals as goal

pub returns-in-Split-clause-visits : goal.returns-in-Split-clause-visits
returns-in-Split-clause-visits c = λ root tree rest s.
    let fits_left : FitsSigned w128 c.in-Split.left = search rules in
    let fits_right : FitsSigned w128 c.in-Split.right = search rules in
    let judges = rw (to_z-of_z fits_left, to_z-of_z fits_right) at (c.visit_split.ensures.judges c.args.trial.now.split.now.model c.args.trial.now.split.now.part c.args.trial.now.are_positions) in
    let enters = rw (to_z-of_z fits_left, to_z-of_z fits_right, c.args.trial.now.are_positions, place_is c.args.trial.now.split.now.model c.args.trial.now.split.now.part c.in-Split.position) at c.visit_split.ensures.entered in
    split_visits c.args.trial.now.split.now.model c.args.trial.now.split.now.part c.args.trial.now.cuts.now (bounds_of c.args.trial.now.goal) root tree c.args.node c.args.walk.now c.visit_split.new.walk c.in-Split.position c.in-Split.left c.in-Split.right rest c.visit_split.result (rw c.in-Split.is at s) judges enters

pub returns-in-Leaf-clause-visits : goal.returns-in-Leaf-clause-visits
returns-in-Leaf-clause-visits c = λ root tree rest s.
    leaf_visits c.args.trial.now.split.now.model c.args.trial.now.split.now.part c.args.trial.now.cuts.now (bounds_of c.args.trial.now.goal) root tree c.args.node c.args.walk.now c.visit_leaf.new.walk c.in-Leaf.leaf rest c.visit_leaf.result (rw c.in-Leaf.is at s) c.visit_leaf.ensures.judges c.visit_leaf.ensures.next
