-- Each feasible point in a box lies in the box of some leaf of a tree over it.
use Rattle.std.specs.Prelude.{ℕ, ℤ, List}
use Rattle.std.proofs.Common.{refl, inl, inr}
use Rattle.bz_model.specs.declared.Model.{Model}
use Rattle.bz_model.specs.Points.{IsFeasible}
use Rattle.bz_cut.specs.declared.Cut.{Cut}
use Rattle.bz_tree.specs.declared.Leaf.{Leaf}
use Rattle.bz_tree.specs.Boxes.{Box, LiesIn}
use Rattle.bz_tree.specs.Leaves.{LeafHolds}
use Rattle.bz_tree.specs.Trees.{Tree, with_upper, with_lower, HoldsOver, EachLeaf, HasSplits, HasLeaf}
use Rattle.bz_tree.proofs.SplitBoxes.{in_a_side}

-- ---- the leaf of a point
pub leaf_of_point : (m : Model) (part : List ℕ) (box : Box) (tree : Tree) (p : List ℤ) (q : ℤ) → HasSplits m part tree → IsFeasible m p q → LiesIn m box p q → (own : Box) × (leaf : Leaf) × HasLeaf m part box tree own leaf × LiesIn m own p q
leaf_of_point m part box (Tree.tip leaf) p q h f l = (box, leaf, (refl, refl), l)
leaf_of_point m part box (Tree.fork position left right below above) p q h f l = elim (in_a_side m part box h.0.0 position left right p q h.0.1 f l) [
  | inl side ↦ let r = leaf_of_point m part (with_upper h.0.0 left box) below p q h.1 f side in (r.0, r.1, (h.0.0, h.0.1, inl r.2), r.3)
  | inr side ↦ let r = leaf_of_point m part (with_lower h.0.0 right box) above p q h.2 f side in (r.0, r.1, (h.0.0, h.0.1, inr r.2), r.3)
]

-- the same where the tree holds and each of its leaves is as P says
pub holding_leaf : (P : Leaf → Type 0) (m : Model) (part : List ℕ) (cuts : List Cut) (box : Box) (tree : Tree) (p : List ℤ) (q : ℤ) → HoldsOver m part cuts box tree → EachLeaf P tree → IsFeasible m p q → LiesIn m box p q → (own : Box) × (leaf : Leaf) × LeafHolds m part own cuts leaf × P leaf × LiesIn m own p q
holding_leaf P m part cuts box (Tree.tip leaf) p q h e f l = (box, leaf, h, e, l)
holding_leaf P m part cuts box (Tree.fork position left right below above) p q h e f l = elim (in_a_side m part box h.0 position left right p q h.1 f l) [
  | inl side ↦ holding_leaf P m part cuts (with_upper h.0 left box) below p q h.2 e.0 f side
  | inr side ↦ holding_leaf P m part cuts (with_lower h.0 right box) above p q h.3 e.1 f side
]
