-- The walk through a tree: the box of the next node, and what is still to come of the splits that are open.
use Rattle.std.specs.Prelude.{ℕ, ℤ, ◌≡◌, ◌+◌, ◌<◌, ◌⊎◌, ◌==◌, List, [], ◌∷◌, ◌++◌, length, reverse, Result, Ok, Err}
use Rattle.std.specs.List.{AllByRecursion, flat_map, position_or_len}
use Rattle.bz_algebra.specs.Numbers.{IsNarrow}
use Rattle.bz_model.specs.declared.Model.{Model}
use Rattle.bz_model.specs.Points.{coordinate}
use Rattle.bz_cut.specs.declared.Cut.{Cut}
use Rattle.bz_first.specs.Tests.{AllHold, IsFirstFault}
use Rattle.bz_tree.specs.declared.Leaf.{Leaf}
use Rattle.bz_tree.specs.declared.TreeNode.{TreeNode}
use Rattle.bz_tree.specs.Boxes.{Box}
use Rattle.bz_tree.specs.Trees.{Tree, preorder, with_lower, with_upper}
use Rattle.bz_judge.specs.declared.CheckFault.{CheckFault}
use Rattle.bz_judge.specs.declared.CheckFault.TheVariants as fault
use Rattle.bz_check.specs.declared.open_splits.Frame.{Frame}
use Rattle.bz_check.specs.declared.open_splits.Frame.TheVariants as side
use Rattle.bz_check.specs.declared.open_splits.Walk.{Walk}
use Rattle.bz_judge.specs.PointTests.{Tests}
use Rattle.bz_tree.specs.Integers.{positions_of}
use Rattle.bz_tree.specs.Leaves.{sides_of}
use Rattle.bz_check.specs.declared.trial.Trial.{Trial}
use Rattle.bz_check.specs.TreeGoals.{bounds_of}
use Rattle.bz_check.specs.CheckTests.{tip_tests, tree_tests}

-- the box of the next node
abbrev pub box_in : Walk → Box
box_in w = record { lower = w.lower.items; upper = w.upper.items }

-- the open splits, the last one first
abbrev pub open_in : Walk → List Frame
open_in w = reverse w.frames.items

-- The boxes of the trees that come behind the tree over the box: where a first side is walked, the box of the second, in
-- the box that the split stands in; that box is had by putting the old end back.
abbrev pub pending : List Frame → Box → List Box
pending [] box = []
pending (side.First place upper right ∷ frames) box =
    with_lower place right (with_upper place upper box) ∷ pending frames (with_upper place upper box)
pending (side.Second place lower ∷ frames) box = pending frames (with_lower place lower box)

-- the place is one of `count` integer columns, and the lower ends are not wide
abbrev pub IsOpenSplit : ℕ → Frame → Type 0
IsOpenSplit count (side.First place upper right) = (place < count) × IsNarrow right
IsOpenSplit count (side.Second place lower) = (place < count) × IsNarrow lower

-- a walk through a tree of a model with so many integer columns
pub record IsWalk (count : ℕ) (w : Walk) : Type 0 where
  pub lowers : length w.lower.items ≡ count
  pub uppers : length w.upper.items ≡ count
  pub narrow : AllByRecursion IsNarrow w.lower.items
  pub splits : AllByRecursion (IsOpenSplit count) w.frames.items

-- from a split to the first of its sides
pub record Enters (place : ℕ) (left right : ℤ) (old new : Walk) : Type 0 where
  pub at_most : box_in new ≡ with_upper place left (box_in old)
  pub opened : new.frames.items ≡ old.frames.items ++ side.First place (coordinate old.upper.items place) right ∷ []

-- from behind the first side of a split, which is open no more, to the second
pub record Turns (place : ℕ) (upper right : ℤ) (old new : Walk) : Type 0 where
  pub at_least : box_in new ≡ with_lower place right (with_upper place upper (box_in old))
  pub opened : new.frames.items ≡ old.frames.items ++ side.Second place (coordinate old.lower.items place) ∷ []

-- from behind the second side of a split, which is open no more, to behind the split
pub record Returns (place : ℕ) (lower : ℤ) (old new : Walk) : Type 0 where
  pub put_back : box_in new ≡ with_lower place lower (box_in old)
  pub as_before : new.frames.items ≡ old.frames.items

-- from a leaf to the next tree that is to come, if one is
abbrev pub GoesOn : Walk → Walk → Type 0
GoesOn old new =
    (pending (open_in old) (box_in old) ≡ [])
    ⊎ (pending (open_in old) (box_in old) ≡ box_in new ∷ pending (open_in new) (box_in new))

-- ---- trees over boxes
-- the tests of trees over their boxes, one behind another, the first node being node `node`
abbrev pub forest_tests : Model → List ℕ → List Cut → (Leaf → Type 0) → ℕ → List Box → List Tree → Tests
forest_tests m part cuts Bounds node [] trees = []
forest_tests m part cuts Bounds node (box ∷ boxes) [] = []
forest_tests m part cuts Bounds node (box ∷ boxes) (tree ∷ trees) =
    tree_tests m part cuts Bounds box node tree
    ++ forest_tests m part cuts Bounds (node + length (preorder tree)) boxes trees

-- the one tests tell what the others do
pub record Leads (some whole : Tests) : Type 0 where
  pub all : AllHold some → AllHold whole
  pub first : (f : CheckFault) → IsFirstFault some f → IsFirstFault whole f

-- The nodes that are left are those of trees over the box and over the boxes that are still to come, and their tests tell
-- what those of the whole tree over its root do. Behind the last node there are none.
pub record Stands
    (m : Model) (part : List ℕ) (cuts : List Cut) (Bounds : Leaf → Type 0) (root : Box) (tree : Tree)
    (node : ℕ) (box : Box) (frames : List Frame) (rest : List TreeNode) : Type 0 where
  pub boxes : List Box
  pub are_boxes : (boxes ≡ []) ⊎ (boxes ≡ box ∷ pending frames box)
  pub trees : List Tree
  pub count : length trees ≡ length boxes
  pub nodes : rest ≡ flat_map preorder trees
  pub leads : Leads (forest_tests m part cuts Bounds node boxes trees) (tree_tests m part cuts Bounds root 0 tree)

-- A node is tested, and it is gone on to the next: the walk stands there, or a fault is the first of the whole tree.
abbrev pub Visits :
    Model → List ℕ → List Cut → (Leaf → Type 0) → Box → Tree →
    ℕ → Walk → List TreeNode → Result (Unit {0}) CheckFault → Type 0
Visits m part cuts Bounds root tree node new rest (Ok _) =
    Stands m part cuts Bounds root tree (node + 1) (box_in new) (open_in new) rest
Visits m part cuts Bounds root tree node new rest (Err f) =
    (f ≡ fault.OutOfMemory) ⊎ IsFirstFault (tree_tests m part cuts Bounds root 0 tree) f

-- the place of the integer column at a position, as many as there are where none stands there
abbrev pub place_of : List ℕ → ℕ → ℕ
place_of positions position = position_or_len (λ p. p == position) positions

-- what is so of each model whose integer columns stand at these positions
abbrev pub OfPositions : List ℕ → (Model → List ℕ → Type 0) → Type 0
OfPositions positions P = (m : Model) (part : List ℕ) → positions ≡ positions_of m part → P m part

-- ---- what nodes are tested against
-- the tests of a leaf at a node, over the box that the walk has come to
abbrev pub here_tests : Trial → Walk → ℕ → Leaf → Tests
here_tests t walk node leaf =
    tip_tests t.split.now.model t.split.now.part (bounds_of t.goal)
    (sides_of t.split.now.model t.split.now.part (box_in walk) t.cuts.now) node leaf

-- Wherever the walk stands in whatever tree, the node is tested, and it is gone on to the next.
abbrev pub VisitsNode : Trial → ℕ → TreeNode → Walk → Walk → Result (Unit {0}) CheckFault → Type 0
VisitsNode t node entry old new result =
    (root : Box) (tree : Tree) (rest : List TreeNode) →
    Stands t.split.now.model t.split.now.part t.cuts.now (bounds_of t.goal) root tree
    node (box_in old) (open_in old) (entry ∷ rest) →
    Visits t.split.now.model t.split.now.part t.cuts.now (bounds_of t.goal) root tree node new rest result
