-- The state of a search, and what each event makes of it.
use Rattle.std.specs.Prelude.{ℕ, zero, suc, not, ◌&&◌, ◌||◌, ◌-◌, Bool, ℤ, pos, ◌+ℤ◌, List, [], ◌∷◌, ◌++◌, length, Option, Some, None, is_none, is_some, cond, max, replicate, set}
use Rattle.std.specs.List.{list_any, slice_get}
use Rattle.bz_model.specs.declared.Master.{Master}
use Rattle.bz_model.specs.declared.BlockPart.{BlockPart}
use Rattle.bz_model.specs.Parting.{blocks_of}
use Rattle.bz_model.specs.Splits.{Decomposition}
use Rattle.bz_cut.specs.declared.Cut.{Cut}
use Rattle.bz_cut.specs.declared.Mode.{Mode}
use Rattle.bz_cut.specs.declared.Mode.TheVariants as mode
use Rattle.bz_tree.specs.declared.Leaf.{Leaf}
use Rattle.bz_tree.specs.Boxes.{Box}
use Rattle.bz_tree.specs.Integers.{integer_at}
use Rattle.bz_event.specs.declared.events.Entry.{Entry}
use Rattle.bz_event.specs.declared.events.Event.{Event}
use Rattle.bz_event.specs.declared.events.Event.TheVariants as event
use Rattle.bz_event.specs.declared.events.How.{How}
use Rattle.bz_event.specs.declared.events.How.TheVariants as how
use Rattle.bz_event.specs.declared.events.Why.{Why}
use Rattle.bz_event.specs.declared.events.Why.TheVariants as why
use Rattle.bz_history.specs.declared.state.FallingRay.{FallingRay}
use Rattle.bz_history.specs.declared.state.Node.{Node}
use Rattle.bz_history.specs.declared.state.Post.{Post}
use Rattle.bz_history.specs.declared.state.Region.{Region}
use Rattle.bz_history.specs.declared.state.Stopped.{Stopped}
use Rattle.bz_history.specs.declared.state.Stopped.TheVariants as stopped

-- What a search knows: its cuts, the places in the history of the floors, in the order of the blocks, the first falling
-- direction, the nodes and posted points by number, the best point's number, how many units are spent, why it stopped, and
-- how many entries there are.
pub record State : Type 0 where
  pub cuts : List Cut
  pub floors : List ℕ
  pub ray : Option FallingRay
  pub nodes : List Node
  pub posts : List Post
  pub best : Option ℕ
  pub units : ℕ
  pub stop : Option Stopped
  pub entries : ℕ

-- ---- what the records say
-- in mode Cost a point of least cost is looked for, and once a block's cost falls without bound any point
abbrev pub mode_for : Option FallingRay → Mode
mode_for None = mode.Cost
mode_for (Some ray) = mode.Point

abbrev pub mode_of : State → Mode
mode_of s = mode_for s.ray

-- a node that needs further work
abbrev pub is_open : Node → Bool
is_open node = is_none node.closing

-- a posted point that nothing ended
abbrev pub is_live : Post → Bool
is_live post = is_none post.ended

-- the search is over: it stopped, or no node is open, or in mode Point there is a point
abbrev pub is_done : State → Bool
is_done s = is_some s.stop || not (list_any is_open s.nodes) || (is_some s.ray && is_some s.best)

abbrev pub box_of : Region → Box
box_of region = record { lower = region.lower; upper = region.upper }

-- how many cuts a node has to be solved over at least: those that were there when it was opened, that which ended the last of
-- its posts that has ended, and in mode Cost a floor for each block
abbrev pub least_front : Decomposition → Mode → Node → ℕ
least_front d mode.Cost node = max (max node.opened node.after) (blocks_of d.part)
least_front d mode.Point node = max node.opened node.after

-- ---- changes
-- the item at a place changed
abbrev pub changed : {X : Type 0} → (X → X) → List X → ℕ → List X
changed f [] i = []
changed f (x ∷ xs) zero = f x ∷ xs
changed f (x ∷ xs) (suc i) = x ∷ changed f xs i

-- the item at a place changed, where one is named
abbrev pub changed_at : {X : Type 0} → (X → X) → List X → Option ℕ → List X
changed_at f xs None = xs
changed_at f xs (Some i) = changed f xs i

-- a post is ended by the entry at this place; what has ended before stays so
abbrev pub end_of : ℕ → Option ℕ → Option ℕ
end_of at None = Some at
end_of at (Some before) = Some before

abbrev pub ended_by : ℕ → Post → Post
ended_by at post = record post { ended = end_of at post.ended }

-- the node's live post was ended by the cut of this number
abbrev pub freed_by : ℕ → Node → Node
freed_by number node = record node { live = None; after = suc number }

-- ---- the effect of each event
-- the two sides of a split of a node, where its integer column number k is at most `value` and above it
abbrev pub side : ℕ → Region → Node
side opened region = record {
  region = region;
  opened = opened;
  after = 0;
  live = None;
  posted = 0;
  closing = None;
}

abbrev pub below : ℕ → ℤ → Region → Region
below k value region = record { lower = region.lower; upper = set region.upper k value }

abbrev pub above : ℕ → ℤ → Region → Region
above k value region = record { lower = set region.lower k (value +ℤ pos 1); upper = region.upper }

-- the nodes that a closing opens: the two sides of a split, over as many cuts as there are
abbrev pub sides_opened : Decomposition → ℕ → How → Option Node → List Node
sides_opened d cuts (how.Split front basis position value) (Some node) =
    side cuts (below (integer_at d.model d.part position) value node.region)
    ∷ side cuts (above (integer_at d.model d.part position) value node.region)
    ∷ []
sides_opened d cuts (how.Split front basis position value) None = []
sides_opened d cuts (how.Leaf front leaf) closed = []

-- the live post of a node
abbrev pub live_of : Option Node → Option ℕ
live_of None = None
live_of (Some node) = node.live

-- where the post is live, its node is freed by the cut of this number
abbrev pub freed_where_live : Option Post → ℕ → List Node → List Node
freed_where_live None number nodes = nodes
freed_where_live (Some post) number nodes = cond (is_live post) (changed (freed_by number) nodes post.node) nodes

-- a node that is closed so by the entry at this place; its sides have the numbers from `kids` on
abbrev pub closed_by : How → ℕ → ℕ → Node → Node
closed_by h at kids node = record node { live = None; closing = Some (record { how = h; at = at; kids = kids }) }

-- a node with one more posted point, which is live
abbrev pub posted_by : ℕ → Node → Node
posted_by post node = record node { live = Some post; posted = suc node.posted }

-- a posted point, nothing of which is completed
abbrev pub posted_point : Decomposition → ℕ → ℕ → ℕ → Master → Option Leaf → Post
posted_point d at node front point leaf = record {
  node = node;
  front = front;
  point = point;
  leaf = leaf;
  fills = replicate (blocks_of d.part) None;
  at = at;
  ended = None;
}

-- the block's completion in a posted point
abbrev pub filled_by : ℕ → ℕ → BlockPart → Post → Post
filled_by at block y post = record post { fills = set post.fills (block - 1) (Some (record { y = y; at = at })) }

abbrev pub stopped_by : Why → Stopped
stopped_by why.Budget = stopped.Budget
stopped_by (why.Wide s) = stopped.Wide

-- the state after an event
abbrev pub effect : Decomposition → State → Event → State
effect d s (event.Floor block basis cut) =
    record s { cuts = s.cuts ++ cut ∷ []; floors = s.floors ++ s.entries ∷ []; entries = suc s.entries }
effect d s (event.Ray block direction) =
    record s { ray = Some (record { block = block; d = direction; at = s.entries }); entries = suc s.entries }
effect d s (event.Post node front point leaf) = record s {
  nodes = changed (posted_by (length s.posts)) s.nodes node;
  posts = s.posts ++ posted_point d s.entries node front point leaf ∷ [];
  entries = suc s.entries;
}
effect d s (event.Append post basis cut) = record s {
  cuts = s.cuts ++ cut ∷ [];
  nodes = freed_where_live (slice_get s.posts post) (length s.cuts) s.nodes;
  posts = changed (ended_by s.entries) s.posts post;
  units = suc s.units;
  entries = suc s.entries;
}
effect d s (event.Again post basis number) = record s {
  nodes = freed_where_live (slice_get s.posts post) number s.nodes;
  posts = changed (ended_by s.entries) s.posts post;
  entries = suc s.entries;
}
effect d s (event.Fill post block y) =
    record s { posts = changed (filled_by s.entries block y) s.posts post; entries = suc s.entries }
effect d s (event.Incumbent post) = record s { best = Some post; entries = suc s.entries }
effect d s (event.Close node h) = record s {
  nodes =
      changed (closed_by h s.entries (length s.nodes)) s.nodes node
      ++ sides_opened d (length s.cuts) h (slice_get s.nodes node);
  posts = changed_at (ended_by s.entries) s.posts (live_of (slice_get s.nodes node));
  units = suc s.units;
  entries = suc s.entries;
}
effect d s (event.Stop reason) = record s { stop = Some (stopped_by reason); entries = suc s.entries }

-- the state of a search that begins with this region: no cuts, one node
abbrev pub opening : Region → State
opening region = record {
  cuts = [];
  floors = [];
  ray = None;
  nodes = side 0 region ∷ [];
  posts = [];
  best = None;
  units = 0;
  stop = None;
  entries = 0;
}

-- the state after all entries, in their order
abbrev pub replay : Decomposition → State → List Entry → State
replay d s [] = s
replay d s (e ∷ es) = replay d (effect d s e.event) es
