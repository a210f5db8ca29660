-- The posted points of every legal history.
use Rattle.std.specs.Prelude.{ℕ, suc, ◌≡◌, ◌≤◌, List, length, take, Some}
use Rattle.bz_model.specs.Parting.{blocks_of}
use Rattle.bz_model.specs.Splits.{Decomposition}
use Rattle.bz_cut.specs.declared.Cut.{Cut}
use Rattle.bz_cut.specs.declared.Mode.{Mode}
use Rattle.bz_event.specs.declared.events.Entry.{Entry}
use Rattle.bz_history.specs.declared.state.Filled.{Filled}
use Rattle.bz_history.specs.declared.state.Node.{Node}
use Rattle.bz_history.specs.declared.state.Post.{Post}
use Rattle.bz_history.specs.declared.state.Region.{Region}
use Rattle.bz_history.specs.Histories.{IsReplay}
use Rattle.bz_history.specs.States.{State, box_of, mode_of}
use Rattle.bz_history.specs.Steps.{IsAt, IsCompletion, IsPostedPoint}

-- The post, live or ended, is of a node that is there. Its point lies in the node's box and meets the cuts of its own front,
-- however many there are now, and whatever fills a block completes it there.
pub record IsPostOf (d : Decomposition) (way : Mode) (nodes : List Node) (cuts : List Cut) (post : Post) : Type 0 where
  pub node : Node
  pub is_node : IsAt nodes post.node node
  pub front : post.front ≤ length cuts
  pub posted : IsPostedPoint d way (box_of node.region) (take post.front cuts) post.point post.leaf
  pub places : length post.fills ≡ blocks_of d.part
  pub fills : (b : ℕ) (fill : Filled) → IsAt post.fills b (Some fill) → IsCompletion d way post.point (suc b) fill.y

abbrev pub ArePosts : Decomposition → State → Type 0
ArePosts d t = (i : ℕ) (post : Post) → IsAt t.posts i post → IsPostOf d (mode_of t) t.nodes t.cuts post

abbrev pub PostsAreRight : Type 0
PostsAreRight =
    (d : Decomposition) (budget : ℕ) (root : Region) (es : List Entry) (t : State) → IsReplay d budget root es t →
    ArePosts d t
