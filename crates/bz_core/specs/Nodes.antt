-- What an answer of a node makes: its events, and what the first of them adds to the lists of a state.
use Rattle.std.specs.Prelude.{ℕ, ◌≡◌, ◌≤◌, ◌<◌, ℤ, pos, ◌≤ℤ◌, ◌<ℤ◌, List, length, Option, Some, None, replicate}
use Rattle.std.specs.List.{slice_get}
use Rattle.std.specs.Option.{ForSome, IsSomeAnd}
use Rattle.bz_model.specs.declared.Master.{Master}
use Rattle.bz_model.specs.Parting.{blocks_of, integers_of}
use Rattle.bz_model.specs.Points.{coordinate}
use Rattle.bz_model.specs.Splits.{Decomposition}
use Rattle.bz_cut.specs.declared.Mode.{Mode}
use Rattle.bz_cut.specs.declared.Mode.TheVariants as mode
use Rattle.bz_tree.specs.declared.Leaf.{Leaf}
use Rattle.bz_tree.specs.Integers.{integer_at}
use Rattle.bz_std.specs.Tasks.{IsMasterOf}
use Rattle.bz_event.specs.declared.answers.NodeAnswer.{NodeAnswer}
use Rattle.bz_event.specs.declared.answers.NodeAnswer.TheVariants as answer
use Rattle.bz_event.specs.declared.events.Event.{Event}
use Rattle.bz_event.specs.declared.events.Event.TheVariants as event
use Rattle.bz_event.specs.declared.events.How.TheVariants as how
use Rattle.bz_event.specs.Nodes.{FitsValue}
use Rattle.bz_history.specs.declared.state.Node.{Node}
use Rattle.bz_history.specs.declared.state.Region.{Region}
use Rattle.bz_history.specs.States.{State, mode_of}
use Rattle.bz_history.specs.Steps.{IsAt}
use Rattle.bz_rules.specs.Entries.{and_stop, node_events}
use Rattle.bz_rules.specs.Shapes.{FitsSplit, IsRegionOf}
use Rattle.bz_state.specs.Views.{AreSides, HasPlace, Progress, number_limit}
use Rattle.bz_core.specs.declared.planning_nodes.Added.{Added}
use Rattle.bz_core.specs.declared.planning_nodes.Added.TheVariants as added
use Rattle.bz_core.specs.declared.planning_nodes.NodePlan.{NodePlan}
use Rattle.bz_core.specs.Separations.{planned_events}

-- ---- answers whose events can be made
-- a leaf is there in mode Cost alone, with a positive delta
abbrev pub HasPositiveLeaf : Mode → Option Leaf → Type 0
HasPositiveLeaf way None = Unit {0}
HasPositiveLeaf way (Some leaf) = (way ≡ mode.Cost) × ((pos 0) <ℤ leaf.delta)

-- the number splits the region: an integer column stands at the position, and the number lies between its ends
pub record SplitsRegion (d : Decomposition) (region : Region) (position : ℕ) (value : ℤ) : Type 0 where
  pub inside : integer_at d.model d.part position < length (integers_of d.model)
  pub at_least : coordinate region.lower (integer_at d.model d.part position) ≤ℤ value
  pub below : value <ℤ coordinate region.upper (integer_at d.model d.part position)

-- the point is one of the master's; in mode Cost no sum of its value is wide
pub record HasValue (d : Decomposition) (way : Mode) (point : Master) : Type 0 where
  pub shape : IsMasterOf d.part point
  pub fits : FitsValue d.model d.part way point

abbrev pub FitsAnswer : Decomposition → Mode → Region → NodeAnswer → Type 0
FitsAnswer d way region (answer.Empty leaf) = Unit {0}
FitsAnswer d way region (answer.Split basis position value leaf) =
    HasPositiveLeaf way leaf × SplitsRegion d region position value
FitsAnswer d way region (answer.Point point leaf) = HasPositiveLeaf way leaf × HasValue d way point

-- the node is there, its posts can be counted with one more, and the answer fits its region
pub record CanBePlanned (d : Decomposition) (t : State) (number : ℕ) (a : NodeAnswer) : Type 0 where
  pub state : FitsSplit d t
  pub node : Node
  pub is_node : IsAt t.nodes number node
  pub posted : node.posted < number_limit
  pub fits : FitsAnswer d (mode_of t) node.region a

-- ---- what an event adds to the lists
-- the node is there, its region is one of the model, and the number splits it
pub record SplitsNode (d : Decomposition) (t : State) (number position : ℕ) (value : ℤ) : Type 0 where
  pub node : Node
  pub is_node : IsAt t.nodes number node
  pub region : IsRegionOf d node.region
  pub splits : SplitsRegion d node.region position value

-- the node's posts, where it is there, can be counted with one more
abbrev pub CountsPost : State → (number : ℕ) → Type 0
CountsPost t number = ForSome (slice_get t.nodes number) (λ node. node.posted < number_limit)

-- the event is the first of a node's answer, and what it adds can be made
abbrev pub CanAdd : Decomposition → State → Event → Type 0
CanAdd d t (event.Close number (how.Leaf front leaf)) = Unit {0}
CanAdd d t (event.Close number (how.Split front basis position value)) = SplitsNode d t number position value
CanAdd d t (event.Post number front point leaf) = CountsPost t number
CanAdd d t (event.Floor block basis cut) = ⊥
CanAdd d t (event.Ray block direction) = ⊥
CanAdd d t (event.Append post basis cut) = ⊥
CanAdd d t (event.Again post basis place) = ⊥
CanAdd d t (event.Fill post block y) = ⊥
CanAdd d t (event.Incumbent post) = ⊥
CanAdd d t (event.Stop reason) = ⊥

-- the two sides of the node
abbrev pub AddsSides : Decomposition → State → (number position : ℕ) → ℤ → Added → Type 0
AddsSides d t number position value (added.Sides left right) =
    IsSomeAnd (slice_get t.nodes number) (AreSides d position value left right)
AddsSides d t number position value added.Nothing = ⊥
AddsSides d t number position value (added.Fills fills) = ⊥

-- a place for each block's completion; the node's posts can be counted with one more
abbrev pub AddsFills : Decomposition → State → (number : ℕ) → Added → Type 0
AddsFills d t number (added.Fills fills) =
    (fills ≡ replicate (blocks_of d.part) None) × CountsPost t number
AddsFills d t number added.Nothing = ⊥
AddsFills d t number (added.Sides left right) = ⊥

-- the event is the first of a node's answer, and this is what it adds
abbrev pub Adds : Decomposition → State → Event → Added → Type 0
Adds d t (event.Close number (how.Leaf front leaf)) a = Unit {0}
Adds d t (event.Close number (how.Split front basis position value)) a = AddsSides d t number position value a
Adds d t (event.Post number front point leaf) a = AddsFills d t number a
Adds d t (event.Floor block basis cut) a = ⊥
Adds d t (event.Ray block direction) a = ⊥
Adds d t (event.Append post basis cut) a = ⊥
Adds d t (event.Again post basis place) a = ⊥
Adds d t (event.Fill post block y) a = ⊥
Adds d t (event.Incumbent post) a = ⊥
Adds d t (event.Stop reason) a = ⊥

-- there is room for what the first event of a node's answer adds
pub record EntersNode (d : Decomposition) (p : Progress) (e : Event) (a : Added) : Type 0 where
  pub adds : Adds d p.state e a
  pub nodes : 2 ≤ p.room.nodes
  pub posts : 1 ≤ p.room.posts
  pub place : HasPlace p.state
  pub units : p.state.units < number_limit

-- ---- plans
-- the events for the state are those for the history, and what the first adds is made
pub record FitsPlan (d : Decomposition) (t : State) (plan : NodePlan) : Type 0 where
  pub same : planned_events (length t.posts) plan.entered ≡ planned_events (length t.posts) plan.appended
  pub adds : Adds d t plan.entered.first plan.added

-- the events are those of the answer
pub record IsNodePlan (d : Decomposition) (t : State) (number front : ℕ) (a : NodeAnswer) (plan : NodePlan)
    : Type 0 where
  pub events : planned_events (length t.posts) plan.appended ≡ node_events d t number front a
  pub fits : FitsPlan d t plan

-- what a plan appends, with the stop for the budget where the units are spent
abbrev pub plan_entries : Decomposition → (budget : ℕ) → State → NodePlan → List Event
plan_entries d budget t plan = and_stop d budget t (planned_events (length t.posts) plan.appended)
