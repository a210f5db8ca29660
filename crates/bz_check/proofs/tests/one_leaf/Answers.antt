use Rattle.std.proofs.Common.{rules, ◌≡◌, refl, List, [], ◌∷◌, arith}
use Rattle.bz_tree.specs.declared.TreeNode.{TreeNode}
use Rattle.bz_tree.specs.declared.Leaf.{Leaf}
use Rattle.bz_tree.specs.Trees.{Tree}
use Rattle.bz_cert.specs.Shapes.{AreNodes}
use Rattle.bz_check.proofs.tests.one_leaf.Goals as goal

one : (l : Leaf) → AreNodes (TreeNode.Leaf l ∷ [])
one l = record { few = omega arith; narrow = (tt, tt); tree = Tree.tip l; is_tree = refl }

pub returns : goal.returns
returns c =
    let nodes : c.from_vec.result ≡ TreeNode.Leaf c.leaf.result ∷ [] = search rules in
    rw nodes (one c.leaf.result)
