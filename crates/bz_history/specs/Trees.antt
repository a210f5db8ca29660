-- The tree of every legal history.
use Rattle.std.specs.Prelude.{ℕ, suc, ◌≡◌, ◌<◌, ◌≤◌, ◌⊎◌, ℤ, pos, ◌+ℤ◌, ◌≤ℤ◌, ◌<ℤ◌, List, length, take, Option, Some, None}
use Rattle.bz_model.specs.Splits.{Decomposition}
use Rattle.bz_model.specs.Points.{coordinate}
use Rattle.bz_cut.specs.declared.Cut.{Cut}
use Rattle.bz_tree.specs.declared.Leaf.{Leaf}
use Rattle.bz_tree.specs.Integers.{integer_at}
use Rattle.bz_tree.specs.Leaves.{LeafHolds}
use Rattle.bz_tree.specs.TreeFits.{FitsLeaf}
use Rattle.bz_tree.specs.Trees.{IsSplitOf}
use Rattle.bz_event.specs.declared.events.Entry.{Entry}
use Rattle.bz_event.specs.declared.events.How.{How}
use Rattle.bz_event.specs.declared.events.How.TheVariants as how
use Rattle.bz_history.specs.declared.state.Closing.{Closing}
use Rattle.bz_history.specs.declared.state.Node.{Node}
use Rattle.bz_history.specs.declared.state.Region.{Region}
use Rattle.bz_history.specs.Histories.{IsReplay}
use Rattle.bz_history.specs.States.{State, above, below, box_of}
use Rattle.bz_history.specs.Steps.{IsAt}

-- the node with this number has the region
pub record HasRegion (nodes : List Node) (number : ℕ) (region : Region) : Type 0 where
  pub node : Node
  pub is_node : IsAt nodes number node
  pub region_is : node.region ≡ region

-- The region of node number n is split at an integer column, between its ends: at most `value` and above it. The two sides
-- are the nodes `kids` and the next one, which came later.
pub record IsSplitAt (d : Decomposition) (nodes : List Node) (n : ℕ) (region : Region) (position : ℕ) (value : ℤ) (kids : ℕ)
    : Type 0 where
  pub later : n < kids
  pub is_split : IsSplitOf d.model d.part (integer_at d.model d.part position) position value (value +ℤ pos 1)
  pub at_least : coordinate region.lower (integer_at d.model d.part position) ≤ℤ value
  pub below_upper : value <ℤ coordinate region.upper (integer_at d.model d.part position)
  pub left : HasRegion nodes kids (below (integer_at d.model d.part position) value region)
  pub right : HasRegion nodes (suc kids) (above (integer_at d.model d.part position) value region)

-- the leaf holds over the region and the first cuts, with no sum or product wide that tells so
pub record IsLeafAt (d : Decomposition) (cuts : List Cut) (region : Region) (front : ℕ) (leaf : Leaf) : Type 0 where
  pub front_is : front ≤ length cuts
  pub holds : LeafHolds d.model d.part (box_of region) (take front cuts) leaf
  pub fits : FitsLeaf d.model d.part (box_of region) (take front cuts) leaf

abbrev pub IsEnd : Decomposition → List Cut → List Node → ℕ → Region → ℕ → How → Type 0
IsEnd d cuts nodes n region kids (how.Split front basis position value) = IsSplitAt d nodes n region position value kids
IsEnd d cuts nodes n region kids (how.Leaf front leaf) = IsLeafAt d cuts region front leaf

-- a node is open, or it is split, or its leaf holds over its own front, however many cuts there are now
abbrev pub IsEndedRight : Decomposition → List Cut → List Node → ℕ → Region → Option Closing → Type 0
IsEndedRight d cuts nodes n region None = Unit {0}
IsEndedRight d cuts nodes n region (Some closing) = IsEnd d cuts nodes n region closing.kids closing.how

-- the region lies in the root's, and has as many ends
pub record IsInside (root region : Region) : Type 0 where
  pub lowers : length region.lower ≡ length root.lower
  pub uppers : length region.upper ≡ length root.upper
  pub lower : (k : ℕ) → coordinate root.lower k ≤ℤ coordinate region.lower k
  pub upper : (k : ℕ) → coordinate region.upper k ≤ℤ coordinate root.upper k

-- the node is split, and the number is that of one of its sides
pub record IsParent (nodes : List Node) (m n : ℕ) : Type 0 where
  pub node : Node
  pub is_node : IsAt nodes m node
  pub closing : Closing
  pub closed : node.closing ≡ Some closing
  pub front : ℕ
  pub basis : List ℕ
  pub position : ℕ
  pub value : ℤ
  pub split : closing.how ≡ how.Split front basis position value
  pub side : (n ≡ closing.kids) ⊎ (n ≡ suc closing.kids)

-- The nodes are one tree from the box of the whole model: each but the first is a side of one that came before, each that
-- is split has its two sides, and each other that is closed has a leaf that holds.
pub record IsTree (d : Decomposition) (root : Region) (cuts : List Cut) (nodes : List Node) : Type 0 where
  pub first : HasRegion nodes 0 root
  pub each : (n : ℕ) (node : Node) → IsAt nodes n node → IsEndedRight d cuts nodes n node.region node.closing
  pub inside : (n : ℕ) (node : Node) → IsAt nodes n node → IsInside root node.region
  pub parents : (n : ℕ) (node : Node) → IsAt nodes (suc n) node → (m : ℕ) × IsParent nodes m (suc n)

abbrev pub TreesAreWhole : Type 0
TreesAreWhole =
    (d : Decomposition) (budget : ℕ) (root : Region) (es : List Entry) (t : State) → IsReplay d budget root es t →
    IsTree d root t.cuts t.nodes

-- Each node is a side of one other at most.
abbrev pub ParentsAreOne : Type 0
ParentsAreOne =
    (d : Decomposition) (budget : ℕ) (root : Region) (es : List Entry) (t : State) → IsReplay d budget root es t →
    (m k n : ℕ) → IsParent t.nodes m n → IsParent t.nodes k n → m ≡ k
