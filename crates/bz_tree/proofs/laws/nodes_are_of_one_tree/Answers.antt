use Rattle.bz_tree.proofs.OneTree.{tree_of_nodes}
use Rattle.bz_tree.proofs.laws.nodes_are_of_one_tree.Goals as goal

pub returns : goal.returns
returns c = tree_of_nodes
