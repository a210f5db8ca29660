-- What contracts see of the state that a search keeps.
use Rattle.std.specs.Prelude.{ℕ, ℤ, ◌-◌, ◌^◌, ◌<◌, ◌≡◌, List, length, min}
use Rattle.bz_model.specs.Splits.{Decomposition}
use Rattle.bz_tree.specs.Integers.{integer_at}
use Rattle.bz_history.specs.declared.state.Node.{Node}
use Rattle.bz_history.specs.declared.state.Region.{Region}
use Rattle.bz_history.specs.States.{State, above, below}

-- nodes and posts are numbered with 32 bits
abbrev pub number_limit : ℕ
number_limit = 2 ^ 32 - 1

-- the room that is left of so much, as far as items can be numbered
abbrev pub room_of : {X : Type 0} → ℕ → List X → ℕ
room_of capacity items = min capacity number_limit - length items

-- how many more of each can be added without memory
pub record Room : Type 0 where
  pub cuts : ℕ
  pub floors : ℕ
  pub nodes : ℕ
  pub posts : ℕ

-- the state, with the room that is left in its lists
pub record Progress : Type 0 where
  pub state : State
  pub room : Room

-- one more entry can be numbered, with 64 bits
abbrev pub HasPlace : State → Type 0
HasPlace s = s.entries < 2 ^ 64 - 1

-- the two sides of the node, where the integer column at the position is at most `value` and above it
pub record AreSides (d : Decomposition) (position : ℕ) (value : ℤ) (left right : Region) (node : Node) : Type 0 where
  pub left_is : left ≡ below (integer_at d.model d.part position) value node.region
  pub right_is : right ≡ above (integer_at d.model d.part position) value node.region
