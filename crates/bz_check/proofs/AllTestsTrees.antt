-- The tests of the cuts and of the tree.
use Rattle.std.specs.Prelude.{ℕ, ◌+◌, ◌≡◌, List, [], ◌∷◌, length}
use Rattle.std.specs.List.{AllByRecursion}
use Rattle.std.proofs.Common.{sym, subst}
use Rattle.bz_model.specs.declared.Model.{Model}
use Rattle.bz_cut.specs.declared.Cut.{Cut}
use Rattle.bz_cut.specs.Cuts.{IsValid}
use Rattle.bz_cut.specs.CutTests.{cut_tests}
use Rattle.bz_cut.specs.Fits.{FitsCut}
use Rattle.bz_first.specs.Tests.{AllHold, answered, test}
use Rattle.bz_cut.proofs.CutTold.{cut_told}
use Rattle.bz_first.proofs.TestLemmas.{all_behind, all_front, all_joined, answered_hold, hold_answered}
use Rattle.bz_tree.specs.declared.Leaf.{Leaf}
use Rattle.bz_tree.specs.Boxes.{Box}
use Rattle.bz_tree.specs.Leaves.{sides_of}
use Rattle.bz_tree.specs.Trees.{Tree, EachLeaf, HoldsOver, IsSplitOf, preorder, with_lower, with_upper}
use Rattle.bz_model.specs.Decomposed.{IsDecomposed}
use Rattle.bz_check.specs.CheckTests.{cuts_tests, fault_of_cut, tree_tests}
use Rattle.bz_tree.specs.Integers.{integer_at}
use Rattle.bz_judge.proofs.LeavesTold.{leaf_fits, leaf_tested, leaf_told}
use Rattle.bz_judge.specs.LeafTests.{leaf_tests}
use Rattle.bz_judge.specs.declared.CheckFault.TheVariants as fault
use Rattle.bz_tree.specs.TreeFits.{FitsTree}
use Rattle.bz_first.proofs.Lists.{numbered_told, numbered_tested}
use Rattle.bz_tree.proofs.OneRoot.{one_integer}

-- ---- the cuts
module _ (m : Model) (part : List ℕ) (cuts : List Cut) where
  pub cuts_told : AllHold (cuts_tests m part cuts) → AllByRecursion (IsValid m part) cuts
  cuts_told h = numbered_told (λ e. answered (fault_of_cut e.0) (cut_tests m part e.1)) (IsValid m part) 0 cuts (λ e g. ((cut_told m part e.1).0 (hold_answered (fault_of_cut e.0) (cut_tests m part e.1) g)).0) h

  pub cuts_fit : AllHold (cuts_tests m part cuts) → AllByRecursion (FitsCut m part) cuts
  cuts_fit h = numbered_told (λ e. answered (fault_of_cut e.0) (cut_tests m part e.1)) (FitsCut m part) 0 cuts (λ e g. ((cut_told m part e.1).0 (hold_answered (fault_of_cut e.0) (cut_tests m part e.1) g)).1) h

  pub cuts_tested : AllByRecursion (IsValid m part) cuts → AllByRecursion (FitsCut m part) cuts → AllHold (cuts_tests m part cuts)
  cuts_tested h f = numbered_tested (λ e. answered (fault_of_cut e.0) (cut_tests m part e.1)) (IsValid m part) (FitsCut m part) 0 cuts (λ e g k. answered_hold (fault_of_cut e.0) (cut_tests m part e.1) ((cut_told m part e.1).1 (g, k))) h f

-- ---- a tree
module _ (m : Model) (part : List ℕ) (cuts : List Cut) (Bounds : Leaf → Type 0) where
  pub tree_told : (box : Box) (node : ℕ) (tree : Tree) → AllHold (tree_tests m part cuts Bounds box node tree) → HoldsOver m part cuts box tree
  tree_told box node (Tree.tip leaf) h = leaf_told m part cuts box node leaf (all_front (leaf_tests m part (sides_of m part box cuts) node leaf) (test (fault.Leaf node) (Bounds leaf) ∷ []) h)
  tree_told box node (Tree.fork position left right below above) h =
      let b = tree_tests m part cuts Bounds (with_upper (integer_at m part position) left box) (node + 1) below in
      let a = tree_tests m part cuts Bounds (with_lower (integer_at m part position) right box) (node + 1 + length (preorder below)) above in (
        integer_at m part position,
        h.0,
        tree_told (with_upper (integer_at m part position) left box) (node + 1) below (all_front b a h.1),
        tree_told (with_lower (integer_at m part position) right box) (node + 1 + length (preorder below)) above (all_behind b a h.1),
      )

  pub leaves_told : (box : Box) (node : ℕ) (tree : Tree) → AllHold (tree_tests m part cuts Bounds box node tree) → EachLeaf Bounds tree
  leaves_told box node (Tree.tip leaf) h = (all_behind (leaf_tests m part (sides_of m part box cuts) node leaf) (test (fault.Leaf node) (Bounds leaf) ∷ []) h).0
  leaves_told box node (Tree.fork position left right below above) h =
      let b = tree_tests m part cuts Bounds (with_upper (integer_at m part position) left box) (node + 1) below in
      let a = tree_tests m part cuts Bounds (with_lower (integer_at m part position) right box) (node + 1 + length (preorder below)) above in (
        leaves_told (with_upper (integer_at m part position) left box) (node + 1) below (all_front b a h.1),
        leaves_told (with_lower (integer_at m part position) right box) (node + 1 + length (preorder below)) above (all_behind b a h.1),
      )

  pub tree_fits : (box : Box) (node : ℕ) (tree : Tree) → AllHold (tree_tests m part cuts Bounds box node tree) → FitsTree m part cuts box tree
  tree_fits box node (Tree.tip leaf) h = leaf_fits m part cuts box node leaf (all_front (leaf_tests m part (sides_of m part box cuts) node leaf) (test (fault.Leaf node) (Bounds leaf) ∷ []) h)
  tree_fits box node (Tree.fork position left right below above) h =
      let b = tree_tests m part cuts Bounds (with_upper (integer_at m part position) left box) (node + 1) below in
      let a = tree_tests m part cuts Bounds (with_lower (integer_at m part position) right box) (node + 1 + length (preorder below)) above in (
        tree_fits (with_upper (integer_at m part position) left box) (node + 1) below (all_front b a h.1),
        tree_fits (with_lower (integer_at m part position) right box) (node + 1 + length (preorder below)) above (all_behind b a h.1),
      )

  module _ (d : IsDecomposed m part) where
    pub tree_tested : (box : Box) (node : ℕ) (tree : Tree) → HoldsOver m part cuts box tree → EachLeaf Bounds tree → FitsTree m part cuts box tree → AllHold (tree_tests m part cuts Bounds box node tree)
    tree_tested box node (Tree.tip leaf) h b f = all_joined (leaf_tests m part (sides_of m part box cuts) node leaf) (test (fault.Leaf node) (Bounds leaf) ∷ []) (leaf_tested m part cuts box node leaf h f) (b, tt)
    tree_tested box node (Tree.fork position left right below above) (k, split, low, high) b f =
        let k_is : k ≡ integer_at m part position = sym (one_integer m part k position left right d split) in
        let there : IsSplitOf m part (integer_at m part position) position left right = subst (λ (i : ℕ). IsSplitOf m part i position left right) k_is split in
        let first : HoldsOver m part cuts (with_upper (integer_at m part position) left box) below = subst (λ (i : ℕ). HoldsOver m part cuts (with_upper i left box) below) k_is low in
        let second : HoldsOver m part cuts (with_lower (integer_at m part position) right box) above = subst (λ (i : ℕ). HoldsOver m part cuts (with_lower i right box) above) k_is high in (
          there,
          all_joined (tree_tests m part cuts Bounds (with_upper (integer_at m part position) left box) (node + 1) below) (tree_tests m part cuts Bounds (with_lower (integer_at m part position) right box) (node + 1 + length (preorder below)) above)
              (tree_tested (with_upper (integer_at m part position) left box) (node + 1) below first b.0 f.0)
              (tree_tested (with_lower (integer_at m part position) right box) (node + 1 + length (preorder below)) above second b.1 f.1),
        )
