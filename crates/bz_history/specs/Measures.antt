-- How many nodes a search can have.
use Rattle.std.specs.Prelude.{ℕ, suc, ◌+◌, ◌-◌, ◌*◌, ◌≤◌, ℤ, pos, negsuc, ◌-ℤ◌, List, [], ◌∷◌, cond}
use Rattle.bz_model.specs.Splits.{Decomposition}
use Rattle.bz_event.specs.declared.events.Entry.{Entry}
use Rattle.bz_history.specs.declared.state.Node.{Node}
use Rattle.bz_history.specs.declared.state.Region.{Region}
use Rattle.bz_history.specs.Histories.{IsReplay}
use Rattle.bz_history.specs.States.{State, is_open}

-- how many whole numbers lie so far from the first to the last of them; 1 where they cross
abbrev pub count_over : ℤ → ℕ
count_over (pos n) = suc n
count_over (negsuc n) = 1

-- how many whole numbers lie between two ends, 1 where these cross
abbrev pub choices : ℤ → ℤ → ℕ
choices lower upper = count_over (upper -ℤ lower)

-- how many whole points the box has, one factor for each integer column
abbrev pub points_in : List ℤ → List ℤ → ℕ
points_in [] uppers = 1
points_in (lower ∷ lowers) [] = 1
points_in (lower ∷ lowers) (upper ∷ uppers) = choices lower upper * points_in lowers uppers

abbrev pub points_of : Region → ℕ
points_of region = points_in region.lower region.upper

-- how many nodes a tree below the node can have: a closed one is itself, and below an open one each leaf holds a point
abbrev pub nodes_below : Node → ℕ
nodes_below node = cond (is_open node) (points_of node.region + (points_of node.region - 1)) 1

abbrev pub all_nodes_below : List Node → ℕ
all_nodes_below [] = 0
all_nodes_below (node ∷ nodes) = nodes_below node + all_nodes_below nodes

-- The nodes that are there, with those that may still come, are at most twice the whole points of the root's box, less one.
abbrev pub NodesAreFew : Type 0
NodesAreFew =
    (d : Decomposition) (budget : ℕ) (root : Region) (es : List Entry) (t : State) → IsReplay d budget root es t →
    all_nodes_below t.nodes + 1 ≤ 2 * points_of root
