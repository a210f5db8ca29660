-- The live posts of every legal history.
use Rattle.std.specs.Prelude.{ℕ, ◌≡◌, true, List, Some}
use Rattle.bz_model.specs.Splits.{Decomposition}
use Rattle.bz_event.specs.declared.events.Entry.{Entry}
use Rattle.bz_history.specs.declared.state.Node.{Node}
use Rattle.bz_history.specs.declared.state.Post.{Post}
use Rattle.bz_history.specs.declared.state.Region.{Region}
use Rattle.bz_history.specs.Histories.{IsReplay}
use Rattle.bz_history.specs.States.{State, is_live, is_open}
use Rattle.bz_history.specs.Steps.{IsAt}

-- post number i is a post of node n, and nothing has ended it
pub record IsLivePostOf (posts : List Post) (i n : ℕ) : Type 0 where
  pub post : Post
  pub is_post : IsAt posts i post
  pub of_node : post.node ≡ n
  pub live : is_live post ≡ true

-- node n is open, and post number i is its live one
pub record HasLivePost (nodes : List Node) (n i : ℕ) : Type 0 where
  pub node : Node
  pub is_node : IsAt nodes n node
  pub live : node.live ≡ Some i
  pub stands_open : is_open node ≡ true

-- The live post of a node is one of its own that nothing has ended, and each such post is the live one of its node, which is
-- open. So a node has at most one.
pub record AreLives (nodes : List Node) (posts : List Post) : Type 0 where
  pub of_node : (n i : ℕ) (node : Node) → IsAt nodes n node → node.live ≡ Some i → IsLivePostOf posts i n
  pub of_post : (i : ℕ) (post : Post) → IsAt posts i post → is_live post ≡ true → HasLivePost nodes post.node i

abbrev pub LivesAreRight : Type 0
LivesAreRight =
    (d : Decomposition) (budget : ℕ) (root : Region) (es : List Entry) (t : State) → IsReplay d budget root es t →
    AreLives t.nodes t.posts
