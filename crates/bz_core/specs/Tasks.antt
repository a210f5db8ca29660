-- Which tasks a search has.
use Rattle.std.specs.Prelude.{ℕ, ◌-◌, ◌≡◌, ◌<◌, ◌≤◌, true, Some, None}
use Rattle.std.specs.List.{slice_get}
use Rattle.bz_model.specs.Parting.{blocks_of}
use Rattle.bz_model.specs.Splits.{Decomposition}
use Rattle.bz_history.specs.declared.state.Node.{Node}
use Rattle.bz_history.specs.declared.state.Post.{Post}
use Rattle.bz_history.specs.States.{State, is_live}
use Rattle.bz_history.specs.Steps.{AreFloorsReady, IsAt, IsNextFloor, IsWaiting}

-- While a block has no floor and no block's cost falls, the floor of the next block is the only task.
abbrev pub IsFloorTask : Decomposition → State → ℕ → Type 0
IsFloorTask d t block = IsNextFloor d t block

-- Then each open node without a live post is one
pub record IsNodeTask (d : Decomposition) (t : State) (number : ℕ) : Type 0 where
  pub ready : AreFloorsReady d t
  pub node : Node
  pub waits : IsWaiting t number node

-- and each block that isn't completed of a live post.
pub record IsSeparationTask (d : Decomposition) (t : State) (number block : ℕ) : Type 0 where
  pub ready : AreFloorsReady d t
  pub post : Post
  pub is_post : IsAt t.posts number post
  pub live : is_live post ≡ true
  pub first : 0 < block
  pub last : block ≤ blocks_of d.part
  pub empty : slice_get post.fills (block - 1) ≡ Some None
