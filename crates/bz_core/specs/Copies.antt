-- What the copies of tasks are.
use Rattle.std.specs.Prelude.{ℕ, ◌+◌, ◌≡◌, ◌<◌, ◌≤◌, length, take}
use Rattle.std.specs.List.{AllByRecursion}
use Rattle.bz_model.specs.Limits.{list_limit}
use Rattle.bz_model.specs.Parting.{blocks_of}
use Rattle.bz_cut.specs.declared.Mode.TheVariants as mode
use Rattle.bz_tree.specs.Ends.{box_of as box_held}
use Rattle.bz_std.specs.Tasks.{IsBoxOf, IsCutOfSplit}
use Rattle.bz_event.specs.declared.tasks.NodeTask.{NodeTask}
use Rattle.bz_event.specs.declared.tasks.SepTask.{SepTask}
use Rattle.bz_event.specs.Nodes.{IsReady}
use Rattle.bz_history.specs.declared.state.Node.{Node}
use Rattle.bz_history.specs.declared.state.Post.{Post}
use Rattle.bz_history.specs.States.{State, box_of, mode_of}
use Rattle.bz_history.specs.Steps.{AreFloorsReady, IsAt}
use Rattle.bz_core.specs.Searches.{Seen, now}

-- the task has the box of the node, the first `front` cuts and the mode
pub record IsCopiedNode (t : State) (number front : ℕ) (task : NodeTask) : Type 0 where
  pub number_is : task.node ≡ number
  pub front_is : task.front ≡ front
  pub node : Node
  pub is_node : IsAt t.nodes number node
  pub region_is : box_held task.region ≡ box_of node.region
  pub cuts_are : task.cuts ≡ take front t.cuts
  pub mode_is : task.mode ≡ mode_of t

-- The task meets what its solver asks, once no floor is missing; in mode Cost where the front has a cut for each block.
pub record CanBeSolved (v : Seen) (task : NodeTask) : Type 0 where
  pub region : IsBoxOf v.split.model (box_held task.region)
  pub cuts : AllByRecursion (IsCutOfSplit v.split.part) task.cuts
  pub few : length task.cuts + 1024 < list_limit
  pub ready : AreFloorsReady v.split (now v) → (task.mode ≡ mode.Cost → blocks_of v.split.part ≤ task.front) →
      IsReady v.split.part task.cuts task.mode

-- the task has the post's point and the mode
pub record IsCopiedSeparation (t : State) (number block : ℕ) (task : SepTask) : Type 0 where
  pub number_is : task.post ≡ number
  pub block_is : task.block ≡ block
  pub post : Post
  pub is_post : IsAt t.posts number post
  pub point_is : task.point ≡ post.point
  pub mode_is : task.mode ≡ mode_of t
