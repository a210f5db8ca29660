-- How much work a search has left: a number that each accepted answer lowers.
use Rattle.std.specs.Prelude.{ℕ, ◌+◌, ◌-◌, ◌*◌, List, [], ◌∷◌, length, Option, Some, None, is_none, cond}
use Rattle.std.specs.List.{slice_get}
use Rattle.bz_model.specs.Parting.{blocks_of}
use Rattle.bz_model.specs.Sizes.{sum_of}
use Rattle.bz_model.specs.Splits.{Decomposition}
use Rattle.bz_history.specs.declared.state.FallingRay.{FallingRay}
use Rattle.bz_history.specs.declared.state.Filled.{Filled}
use Rattle.bz_history.specs.declared.state.Node.{Node}
use Rattle.bz_history.specs.declared.state.Post.{Post}
use Rattle.bz_history.specs.States.{State, is_done, is_open}

-- ---- the work at one node
-- how many cuts a search can have: a floor for each block, and one for each unit
abbrev pub most_cuts : Decomposition → (budget : ℕ) → ℕ
most_cuts d budget = blocks_of d.part + budget

-- how many blocks of a post aren't filled
abbrev pub unfilled : List (Option Filled) → ℕ
unfilled [] = 0
unfilled (fill ∷ fills) = cond (is_none fill) 1 0 + unfilled fills

-- A node can be posted once for each cut that can still come after this front. Such a round is the post, a fill for each
-- block, and the cut that ends it.
abbrev pub rounds_left : (blocks cuts front : ℕ) → ℕ
rounds_left blocks cuts front = (cuts - front) * (blocks + 2)

-- what is left at a node without a live post: its rounds, and before them one more post with a fill for each block
abbrev pub left_unposted : (blocks cuts after : ℕ) → ℕ
left_unposted blocks cuts after = rounds_left blocks cuts after + (blocks + 1)

-- what is left at a node with this live post: its rounds, and before them a fill for each block that isn't filled
abbrev pub left_of_post : (blocks cuts : ℕ) → Option Post → ℕ
left_of_post blocks cuts None = 0
left_of_post blocks cuts (Some post) = rounds_left blocks cuts post.front + unfilled post.fills

-- what is left at an open node, by its live post where it has one
abbrev pub left_of_open : (blocks cuts : ℕ) → List Post → (after : ℕ) → (live : Option ℕ) → ℕ
left_of_open blocks cuts posts after None = left_unposted blocks cuts after
left_of_open blocks cuts posts after (Some number) = left_of_post blocks cuts (slice_get posts number)

-- nothing is left at a closed node
abbrev pub left_of_node : (blocks cuts : ℕ) → List Post → Node → ℕ
left_of_node blocks cuts posts node = cond (is_open node) (left_of_open blocks cuts posts node.after node.live) 0

-- ---- the work of a search
-- what is left at all nodes
abbrev pub nodes_left : Decomposition → (budget : ℕ) → State → ℕ
nodes_left d budget t = sum_of (left_of_node (blocks_of d.part) (most_cuts d budget) t.posts) t.nodes

-- what a unit is worth: one more than all that can be left at the two sides of a split. That is more, too, than a cut can
-- leave at the node that it frees.
abbrev pub unit_of : Decomposition → (budget : ℕ) → ℕ
unit_of d budget = 2 * left_unposted (blocks_of d.part) (most_cuts d budget) 0 + 1

-- how many floors are left to make: none once a block's cost falls without bound
abbrev pub floors_left : Decomposition → (floors : ℕ) → Option FallingRay → ℕ
floors_left d floors None = blocks_of d.part - floors
floors_left d floors (Some ray) = 0

-- a search that isn't done can still stop
abbrev pub stop_left : State → ℕ
stop_left t = cond (is_done t) 0 1

-- all that is left: the units that aren't spent, the floors, the nodes, and the stop
abbrev pub work_left : Decomposition → (budget : ℕ) → State → ℕ
work_left d budget t =
    (budget - t.units) * unit_of d budget + floors_left d (length t.floors) t.ray + nodes_left d budget t + stop_left t
