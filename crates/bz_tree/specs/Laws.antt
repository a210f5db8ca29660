-- What is proved of boxes and of leaves.
use Rattle.std.specs.Prelude.{ℕ, ℤ, List, ◌++◌, ◌⊎◌, length}
use Rattle.bz_model.specs.declared.Model.{Model}
use Rattle.bz_model.specs.Points.{IsFeasible}
use Rattle.bz_cut.specs.declared.Cut.{Cut}
use Rattle.bz_cut.specs.Rows.{AreMultipliers}
use Rattle.bz_tree.specs.Boxes.{Box, LiesIn}
use Rattle.bz_tree.specs.declared.records.Leaf.{Leaf}
use Rattle.bz_tree.specs.Leaves.{LeafHolds, sides_of}
use Rattle.bz_tree.specs.TreeFits.{FitsLeaf}
use Rattle.bz_tree.specs.Trees.{IsSplitOf, with_lower, with_upper}

-- A feasible point in a box lies in one of the two boxes of a split of it.
abbrev pub SplitsCover : Type 0
SplitsCover = (m : Model) (part : List ℕ) (box : Box) (k position : ℕ) (left right : ℤ) (p : List ℤ) (q : ℤ) →
    IsSplitOf m part k position left right → IsFeasible m p q → LiesIn m box p q →
    LiesIn m (with_upper k left box) p q ⊎ LiesIn m (with_lower k right box) p q

-- A leaf that holds still holds when cuts are appended, and its sums, none of which was wide, are still as they were.
pub record LeavesKeep : Type 0 where
  pub holds : (m : Model) (part : List ℕ) (box : Box) (cuts more : List Cut) (leaf : Leaf) →
      LeafHolds m part box cuts leaf → LeafHolds m part box (cuts ++ more) leaf
  pub fits : (m : Model) (part : List ℕ) (box : Box) (cuts more : List Cut) (leaf : Leaf) →
      AreMultipliers (length (sides_of m part box cuts)) leaf.lambda →
      FitsLeaf m part box cuts leaf → FitsLeaf m part box (cuts ++ more) leaf
