-- The nodes that are left are those of the trees to come, whose tests tell what those of the whole tree do.
use Rattle.std.proofs.Common.{drop, length}
use Rattle.bz_tree.specs.Ends.{box_of}
use Rattle.bz_tree.specs.Trees.{IsTreeOf, Tree}
use Rattle.bz_tree.specs.Integers.{positions_of}
use Rattle.bz_check.specs.TreeGoals.{bounds_of}
use Rattle.bz_check.specs.Walks.{IsWalk, Stands, box_in, open_in}
use Rattle.bz_check.proofs.tree_walk.judge_tree.Given as goal

abbrev pub invariant-loop-node : goal.invariant-loop-node
invariant-loop-node l = record {
  walk : IsWalk (length (positions_of l.split.model l.split.part)) l.walk;
  stands : (tree : Tree) → IsTreeOf l.nodes tree → Stands l.split.model l.split.part l.cuts (bounds_of l.fn.goal) (box_of l.fn.root) tree l.node (box_in l.walk) (open_in l.walk) (drop l.node l.nodes);
}
