-- What is listed, with the trees at the stacked numbers, is each tree at the first node.
use Rattle.std.proofs.Common.{length}
use Rattle.bz_certify.proofs.Walking.{IsWalk, weight}
use Rattle.bz_certify.proofs.trees.tree_of.Given as goal

abbrev pub invariant-loop-n : goal.invariant-loop-n
invariant-loop-n l = IsWalk l.fn.nodes l.stack.items l.list.items

abbrev pub decreases-loop-n : goal.decreases-loop-n
decreases-loop-n l = weight (length l.fn.nodes) l.stack.items
