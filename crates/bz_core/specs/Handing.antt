-- Which task is handed out, and how it is marked.
use Rattle.std.specs.Prelude.{ℕ, ◌-◌, ◌≡◌, ◌<◌, ◌≤◌, ◌⊎◌, Bool, true, false, List, length, Option, Some, None, set}
use Rattle.std.specs.List.{slice_get}
use Rattle.bz_model.specs.Parting.{blocks_of}
use Rattle.bz_model.specs.Splits.{Decomposition}
use Rattle.bz_event.specs.declared.tasks.TaskName.{TaskName}
use Rattle.bz_event.specs.declared.tasks.TaskName.TheVariants as name
use Rattle.bz_history.specs.declared.state.Filled.{Filled}
use Rattle.bz_history.specs.declared.state.Node.{Node}
use Rattle.bz_history.specs.declared.state.Post.{Post}
use Rattle.bz_history.specs.States.{State, changed, is_done, is_live, is_open}
use Rattle.bz_history.specs.Steps.{AreFloorsReady, IsAt, IsFrontOf}
use Rattle.bz_core.specs.declared.roles.Next.{Next}
use Rattle.bz_core.specs.declared.roles.Next.TheVariants as next
use Rattle.bz_core.specs.declared.roles.Role.{Role}
use Rattle.bz_core.specs.declared.roles.Role.TheVariants as role
use Rattle.bz_core.specs.Searches.{Marks}
use Rattle.bz_core.specs.Tasks.{IsFloorTask, IsNodeTask, IsSeparationTask}

-- ---- marks
-- the node is open, has no live post, and isn't handed out
pub record IsFreeNode (nodes : List Node) (marks : List Bool) (number : ℕ) : Type 0 where
  pub node : Node
  pub is_node : IsAt nodes number node
  pub stands_open : is_open node ≡ true
  pub unposted : node.live ≡ None
  pub unmarked : slice_get marks number ≡ Some false

-- no free node has a smaller number
abbrev pub IsFirstNode : List Node → List Bool → ℕ → Type 0
IsFirstNode nodes marks number = (k : ℕ) → k < number → IsFreeNode nodes marks k → ⊥

abbrev pub NoNodeIsFree : List Node → List Bool → Type 0
NoNodeIsFree nodes marks = (k : ℕ) → IsFreeNode nodes marks k → ⊥

-- the block, one of so many, isn't completed, and isn't handed out
pub record IsFreeBlock (blocks : ℕ) (fills : List (Option Filled)) (marks : List Bool) (block : ℕ) : Type 0 where
  pub first : 0 < block
  pub last : block ≤ blocks
  pub empty : slice_get fills (block - 1) ≡ Some None
  pub unmarked : slice_get marks (block - 1) ≡ Some false

-- the post is live, and the block is free there
pub record IsFreeSeparation (blocks : ℕ) (posts : List Post) (marks : List (List Bool)) (number block : ℕ) : Type 0 where
  pub post : Post
  pub is_post : IsAt posts number post
  pub live : is_live post ≡ true
  pub of_post : List Bool
  pub is_marks : slice_get marks number ≡ Some of_post
  pub free : IsFreeBlock blocks post.fills of_post block

-- the free separations of smaller posts, and of smaller blocks of the same post, are none
pub record IsFirstSeparation (blocks : ℕ) (posts : List Post) (marks : List (List Bool)) (number block : ℕ) : Type 0 where
  pub posts_before : (i b : ℕ) → i < number → IsFreeSeparation blocks posts marks i b → ⊥
  pub blocks_before : (b : ℕ) → b < block → IsFreeSeparation blocks posts marks number b → ⊥

abbrev pub NoSeparationIsFree : ℕ → List Post → List (List Bool) → Type 0
NoSeparationIsFree blocks posts marks = (i b : ℕ) → IsFreeSeparation blocks posts marks i b → ⊥

-- ---- what is handed out
-- the block of the post is handed out
pub record IsHandedBlock (marks : List (List Bool)) (number block : ℕ) : Type 0 where
  pub of_post : List Bool
  pub is_marks : slice_get marks number ≡ Some of_post
  pub handed : slice_get of_post (block - 1) ≡ Some true

-- each task is handed out
pub record AllIsHanded (d : Decomposition) (t : State) (marks : Marks) : Type 0 where
  pub floors : (block : ℕ) → IsFloorTask d t block → marks.floor ≡ true
  pub nodes : (number : ℕ) → IsNodeTask d t number → slice_get marks.nodes number ≡ Some true
  pub separations : (number block : ℕ) → IsSeparationTask d t number block → IsHandedBlock marks.blocks number block

-- ---- the choice
-- the floor of the block is a task that isn't handed out
pub record ChoosesFloor (d : Decomposition) (t : State) (marks : Marks) (block : ℕ) : Type 0 where
  pub task : IsFloorTask d t block
  pub unmarked : marks.floor ≡ false

-- who makes separations first solves a node where none is left
abbrev pub AllowsNode : Role → Decomposition → State → Marks → Type 0
AllowsNode role.Nodes d t marks = Unit {0}
AllowsNode role.Cuts d t marks = NoSeparationIsFree (blocks_of d.part) t.posts marks.blocks

-- the node is the first that isn't handed out, over all cuts
pub record ChoosesNode (d : Decomposition) (t : State) (marks : Marks) (worker : Role) (number front : ℕ) : Type 0 where
  pub ready : AreFloorsReady d t
  pub free : IsFreeNode t.nodes marks.nodes number
  pub first : IsFirstNode t.nodes marks.nodes number
  pub over_all : front ≡ length t.cuts
  pub front_is : IsFrontOf d t free.node front
  pub allowed : AllowsNode worker d t marks

-- who solves nodes first makes a separation where none is left
abbrev pub AllowsSeparation : Role → State → Marks → Type 0
AllowsSeparation role.Nodes t marks = NoNodeIsFree t.nodes marks.nodes
AllowsSeparation role.Cuts t marks = Unit {0}

-- the separation is the first that isn't handed out
pub record ChoosesSeparation (d : Decomposition) (t : State) (marks : Marks) (worker : Role) (number block : ℕ) : Type 0 where
  pub ready : AreFloorsReady d t
  pub free : IsFreeSeparation (blocks_of d.part) t.posts marks.blocks number block
  pub first : IsFirstSeparation (blocks_of d.part) t.posts marks.blocks number block
  pub allowed : AllowsSeparation worker t marks

-- the search isn't over, and nobody called it off
pub record GoesOn (t : State) (quit : Bool) : Type 0 where
  pub running : is_done t ≡ false
  pub wanted : quit ≡ false

abbrev pub Chooses : Decomposition → State → Marks → Bool → Role → Next → Type 0
Chooses d t marks quit worker (next.Floor block) = GoesOn t quit × ChoosesFloor d t marks block
Chooses d t marks quit worker (next.Node number front) = GoesOn t quit × ChoosesNode d t marks worker number front
Chooses d t marks quit worker (next.Sep number block) = GoesOn t quit × ChoosesSeparation d t marks worker number block
Chooses d t marks quit worker next.Idle = GoesOn t quit × AllIsHanded d t marks
Chooses d t marks quit worker next.Done = (is_done t ≡ true) ⊎ (quit ≡ true)

-- ---- the mark
-- the block of the post marked
abbrev pub block_marked : List (List Bool) → ℕ → ℕ → Bool → List (List Bool)
block_marked marks number block mark = changed (λ of_post. set of_post (block - 1) mark) marks number

-- the marks with that of what is handed out
abbrev pub marked : Next → Marks → Marks
marked (next.Floor block) marks = record marks { floor = true }
marked (next.Node number front) marks = record marks { nodes = set marks.nodes number true }
marked (next.Sep number block) marks = record marks { blocks = block_marked marks.blocks number block true }
marked next.Idle marks = marks
marked next.Done marks = marks

-- the marks without that of the task
abbrev pub unmarked : TaskName → Marks → Marks
unmarked (name.Floor block) marks = record marks { floor = false }
unmarked (name.Node number front) marks = record marks { nodes = set marks.nodes number false }
unmarked (name.Sep number block) marks = record marks { blocks = block_marked marks.blocks number block false }

-- ---- by the worker's role
abbrev pub by_role : Role → ℕ → Option ℕ → Option (ℕ × ℕ) → Next
by_role role.Nodes front (Some number) separation = next.Node number front
by_role role.Nodes front None (Some separation) = next.Sep separation.0 separation.1
by_role role.Nodes front None None = next.Idle
by_role role.Cuts front first (Some separation) = next.Sep separation.0 separation.1
by_role role.Cuts front (Some number) None = next.Node number front
by_role role.Cuts front None None = next.Idle
