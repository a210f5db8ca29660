-- The leaves of every legal history.
use Rattle.std.specs.Prelude.{ℕ, ◌≡◌, List, Some}
use Rattle.bz_model.specs.Splits.{Decomposition}
use Rattle.bz_tree.specs.declared.Leaf.{Leaf}
use Rattle.bz_event.specs.declared.events.Entry.{Entry}
use Rattle.bz_event.specs.declared.events.How.TheVariants as how
use Rattle.bz_history.specs.declared.state.Closing.{Closing}
use Rattle.bz_history.specs.declared.state.Node.{Node}
use Rattle.bz_history.specs.declared.state.Region.{Region}
use Rattle.bz_history.specs.Histories.{IsReplay}
use Rattle.bz_history.specs.States.{State}
use Rattle.bz_history.specs.Steps.{IsAt, ReachesBest}

-- the node is closed by the leaf
pub record IsClosedBy (nodes : List Node) (leaf : Leaf) : Type 0 where
  pub number : ℕ
  pub node : Node
  pub is_node : IsAt nodes number node
  pub closing : Closing
  pub closed : node.closing ≡ Some closing
  pub front : ℕ
  pub by_leaf : closing.how ≡ how.Leaf front leaf

-- Each closing leaf is empty, or its bound is no less than the value of the best post now, however much that has fallen
-- since.
abbrev pub LeavesReach : Decomposition → State → Type 0
LeavesReach d t = (leaf : Leaf) → IsClosedBy t.nodes leaf → ReachesBest d t leaf

abbrev pub LeavesAreRight : Type 0
LeavesAreRight =
    (d : Decomposition) (budget : ℕ) (root : Region) (es : List Entry) (t : State) → IsReplay d budget root es t →
    LeavesReach d t
