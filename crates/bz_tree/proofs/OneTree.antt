-- A list of nodes is that of at most one tree.
use Rattle.std.specs.Prelude.{◌≡◌, List, [], ◌++◌}
use Rattle.std.proofs.Common.{ap, sym, ◌∙◌, append_assoc}
use Rattle.bz_tree.specs.declared.records.TreeNode.{TreeNode}
use Rattle.bz_tree.specs.Trees.{Tree, IsTreeOf, preorder}

-- two trees whose nodes begin one list are one, and leave the same rest
one_tree : (s t : Tree) (xs ys : List TreeNode) → preorder s ++ xs ≡ preorder t ++ ys → (s ≡ t) × (xs ≡ ys)
one_tree (Tree.tip a) (Tree.tip b) xs ys e =
    let same : a ≡ b = cc in
    let rest : xs ≡ ys = cc in
    (ap (λ (leaf : _). Tree.tip leaf) same, rest)
one_tree (Tree.tip a) (Tree.fork p l r below above) xs ys e = absurd cc
one_tree (Tree.fork p l r below above) (Tree.tip b) xs ys e = absurd cc
one_tree (Tree.fork p l r below above) (Tree.fork p' l' r' below' above') xs ys e =
    let place : p ≡ p' = cc in
    let left : l ≡ l' = cc in
    let right : r ≡ r' = cc in
    let both : (preorder below ++ preorder above) ++ xs ≡ (preorder below' ++ preorder above') ++ ys = cc in
    let first = one_tree below below' (preorder above ++ xs) (preorder above' ++ ys) (sym (append_assoc (preorder below) (preorder above) xs) ∙ both ∙ append_assoc (preorder below') (preorder above') ys) in
    let second = one_tree above above' xs ys first.1 in
    (rw (place, left, right, first.0, second.0), second.1)

pub tree_of_nodes : (nodes : List TreeNode) (s t : Tree) → IsTreeOf nodes s → IsTreeOf nodes t → s ≡ t
tree_of_nodes nodes s t h g = (one_tree s t [] [] (ap (λ (ns : List TreeNode). ns ++ []) (sym h ∙ g))).0
