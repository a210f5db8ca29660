-- What a walk over closed nodes goes by.
use Rattle.std.specs.Prelude.{ℕ, suc, ◌<◌, ◌≡◌, pos, ◌+ℤ◌, List, [], ◌∷◌, length, Option, Some, None}
use Rattle.bz_algebra.specs.Numbers.{IsNarrow}
use Rattle.bz_tree.specs.declared.TreeNode.{TreeNode}
use Rattle.bz_event.specs.declared.events.How.{How}
use Rattle.bz_event.specs.declared.events.How.TheVariants as how
use Rattle.bz_history.specs.declared.state.Closing.{Closing}
use Rattle.bz_history.specs.declared.state.Node.{Node}
use Rattle.bz_history.specs.Steps.{IsAt}

-- the node of a certificate's tree that the end of a node states
abbrev pub head_of : How → TreeNode
head_of (how.Split front basis position value) = TreeNode.Split position value (value +ℤ pos 1)
head_of (how.Leaf front leaf) = TreeNode.Leaf leaf

-- the number after that of a split isn't wide
abbrev pub HasNext : How → Type 0
HasNext (how.Split front basis position value) = IsNarrow (value +ℤ pos 1)
HasNext (how.Leaf front leaf) = Unit {0}

-- the sides of a split from the number `kids` on, the right one first; a leaf has none
abbrev pub sides_from : ℕ → How → List ℕ
sides_from kids (how.Split front basis position value) = suc kids ∷ kids ∷ []
sides_from kids (how.Leaf front leaf) = []

abbrev pub sides_of : Closing → List ℕ
sides_of closing = sides_from closing.kids closing.how

-- the sides of a split come later than it, and are there
pub record AreSidesLater (nodes : List Node) (n kids : ℕ) : Type 0 where
  pub later : n < kids
  pub inside : suc kids < length nodes

abbrev pub IsEndOf : List Node → ℕ → ℕ → How → Type 0
IsEndOf nodes n kids (how.Split front basis position value) = AreSidesLater nodes n kids × IsNarrow (value +ℤ pos 1)
IsEndOf nodes n kids (how.Leaf front leaf) = Unit {0}

abbrev pub IsClosedAt : List Node → ℕ → Option Closing → Type 0
IsClosedAt nodes n None = ⊥
IsClosedAt nodes n (Some closing) = IsEndOf nodes n closing.kids closing.how

-- there is a first node, and each is closed, by a leaf, or by a split whose sides come later and are there
pub record AreClosed (nodes : List Node) : Type 0 where
  pub first : 0 < length nodes
  pub each : (n : ℕ) (node : Node) → IsAt nodes n node → IsClosedAt nodes n node.closing

-- this is the end of the node with the number
pub record IsClosingAt (nodes : List Node) (n : ℕ) (closing : Closing) : Type 0 where
  pub node : Node
  pub is_node : IsAt nodes n node
  pub closed : node.closing ≡ Some closing
