-- Trees of branch and bound: splits of integer columns, with multipliers at each end, and what it is for one to hold
-- over a box.
use Rattle.std.specs.Prelude.{ℕ, ℤ, pos, ◌≡◌, ◌+ℤ◌, ◌*ℤ◌, ◌<ℤ◌, ◌≤ℤ◌, ◌⊎◌, List, [], ◌∷◌, ◌++◌, Some, set, slice_get}
use Rattle.bz_model.specs.declared.Column.{Column}
use Rattle.bz_model.specs.declared.Model.{Model}
use Rattle.bz_model.specs.Parting.{position_of, integers_of}
use Rattle.bz_cut.specs.declared.Cut.{Cut}
use Rattle.bz_tree.specs.declared.records.Leaf.{Leaf}
use Rattle.bz_tree.specs.Boxes.{Box}
use Rattle.bz_tree.specs.Leaves.{LeafHolds}
use Rattle.bz_tree.specs.declared.records.TreeNode.{TreeNode}

-- A tree: a leaf at its tip, or a fork at the position of an integer column in the master, with the numbers that the
-- column is at most in the first tree and at least in the second.
pub data Tree : Type 0 where
  tip : Leaf → Tree
  fork : ℕ → ℤ → ℤ → Tree → Tree → Tree

-- the nodes of a tree, a split before the nodes of its two trees
abbrev pub preorder : Tree → List TreeNode
preorder (tip leaf) = TreeNode.Leaf leaf ∷ []
preorder (fork position left right below above) =
    TreeNode.Split position left right ∷ (preorder below ++ preorder above)

-- the nodes are those of the tree
abbrev pub IsTreeOf : List TreeNode → Tree → Type 0
IsTreeOf nodes tree = nodes ≡ preorder tree

-- A split of integer column number k, counted from 0 in file order: its position in the master is `position`, and the
-- second number is the next one after the first.
pub record IsSplitOf (m : Model) (part : List ℕ) (k position : ℕ) (left right : ℤ) : Type 0 where
  pub column : ℕ × Column
  pub is_column : slice_get (integers_of m) k ≡ Some column
  pub at_position : position_of part column.0 ≡ position
  pub next : right ≡ left +ℤ pos 1

-- The boxes of the two sides of a split of integer column number k: its upper end is replaced on the one side and its
-- lower end on the other, whether that is tighter or not.
abbrev pub with_upper : ℕ → ℤ → Box → Box
with_upper k left box = record { lower = box.lower; upper = set box.upper k left }

abbrev pub with_lower : ℕ → ℤ → Box → Box
with_lower k right box = record { lower = set box.lower k right; upper = box.upper }

-- Each split of the tree is one of an integer column, and each leaf holds over the box that the splits above it make of
-- the tree's box.
abbrev pub HoldsOver : Model → List ℕ → List Cut → Box → Tree → Type 0
HoldsOver m part cuts box (tip leaf) = LeafHolds m part box cuts leaf
HoldsOver m part cuts box (fork position left right below above) =
    (k : ℕ)
    × IsSplitOf m part k position left right
    × HoldsOver m part cuts (with_upper k left box) below
    × HoldsOver m part cuts (with_lower k right box) above

-- each leaf of the tree is as P says
abbrev pub EachLeaf : (Leaf → Type 0) → Tree → Type 0
EachLeaf P (tip leaf) = P leaf
EachLeaf P (fork position left right below above) = EachLeaf P below × EachLeaf P above

-- the leaf is empty: it shows that no feasible point is in its box
abbrev pub IsEmpty : Leaf → Type 0
IsEmpty leaf = leaf.delta ≡ pos 0

-- the leaf is empty, or its bound is no less than value / den
abbrev pub Reaches : ℤ → ℤ → Leaf → Type 0
Reaches value den leaf = pos 0 <ℤ leaf.delta → (value *ℤ leaf.delta) ≤ℤ (leaf.bound *ℤ den)

-- each split of the tree is one of an integer column
abbrev pub HasSplits : Model → List ℕ → Tree → Type 0
HasSplits m part (tip leaf) = Unit {0}
HasSplits m part (fork position left right below above) =
    ((k : ℕ) × IsSplitOf m part k position left right) × HasSplits m part below × HasSplits m part above

-- the leaf is one of the tree over the box, and `own` is the box that the splits above it make
abbrev pub HasLeaf : Model → List ℕ → Box → Tree → Box → Leaf → Type 0
HasLeaf m part box (tip end) own leaf = (own ≡ box) × (leaf ≡ end)
HasLeaf m part box (fork position left right below above) own leaf =
    (k : ℕ)
    × IsSplitOf m part k position left right
    × (HasLeaf m part (with_upper k left box) below own leaf ⊎ HasLeaf m part (with_lower k right box) above own leaf)
