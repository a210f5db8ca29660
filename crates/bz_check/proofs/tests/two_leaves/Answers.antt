use Rattle.std.proofs.Common.{rules, ◌≡◌, refl, ℤ, pos, List, [], ◌∷◌, arith, FitsSigned, to_z-of_z}
use Rattle.std.specs.Int.{w128}
use Rattle.bz_algebra.specs.Numbers.{IsNarrow}
use Rattle.bz_tree.specs.declared.TreeNode.{TreeNode}
use Rattle.bz_tree.specs.declared.Leaf.{Leaf}
use Rattle.bz_tree.specs.Trees.{Tree}
use Rattle.bz_cert.specs.Shapes.{AreNodes}
use Rattle.bz_check.proofs.tests.two_leaves.Goals as goal

two : (right : ℤ) (below above : Leaf) → IsNarrow right → AreNodes (TreeNode.Split 0 (pos 0) right ∷ TreeNode.Leaf below ∷ TreeNode.Leaf above ∷ [])
two right below above n = record {
  few = omega arith;
  narrow = ((omega arith, n), (tt, (tt, tt)));
  tree = Tree.fork 0 (pos 0) right (Tree.tip below) (Tree.tip above);
  is_tree = refl;
}

pub returns : goal.returns
returns c =
    let fits : FitsSigned w128 c.narrow.result = search rules in
    let nodes : c.from_vec.result ≡ TreeNode.Split 0 (pos 0) c.narrow.result ∷ TreeNode.Leaf c.leaf-below.result ∷ TreeNode.Leaf c.leaf-above.result ∷ [] = search rules in
    rw nodes (two c.narrow.result c.leaf-below.result c.leaf-above.result c.narrow.ensures)
