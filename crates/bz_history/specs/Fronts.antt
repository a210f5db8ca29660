-- The fronts of the posts of every legal history.
use Rattle.std.specs.Prelude.{ℕ, ◌≡◌, ◌<◌, ◌≤◌, false, true, List}
use Rattle.bz_model.specs.Splits.{Decomposition}
use Rattle.bz_event.specs.declared.events.Entry.{Entry}
use Rattle.bz_history.specs.declared.state.Node.{Node}
use Rattle.bz_history.specs.declared.state.Post.{Post}
use Rattle.bz_history.specs.declared.state.Region.{Region}
use Rattle.bz_history.specs.Histories.{IsReplay}
use Rattle.bz_history.specs.States.{State, is_live, is_open}
use Rattle.bz_history.specs.Steps.{IsAt}

-- The fronts of a node's posts rise. While the node is open, those of its posts that have ended are below what it has to be
-- solved over next; a live post is the last of its node.
pub record AreFronts (nodes : List Node) (posts : List Post) : Type 0 where
  pub rise : (i j : ℕ) (a b : Post) → IsAt posts i a → IsAt posts j b → i < j → a.node ≡ b.node → a.front < b.front
  pub ended : (i : ℕ) (post : Post) (node : Node) → IsAt posts i post → is_live post ≡ false → IsAt nodes post.node node →
      is_open node ≡ true → post.front < node.after
  pub last : (i j : ℕ) (a b : Post) → IsAt posts i a → is_live a ≡ true → IsAt posts j b → a.node ≡ b.node → j ≤ i

abbrev pub FrontsRise : Type 0
FrontsRise =
    (d : Decomposition) (budget : ℕ) (root : Region) (es : List Entry) (t : State) → IsReplay d budget root es t →
    AreFronts t.nodes t.posts
