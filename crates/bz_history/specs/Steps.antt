-- Which events may follow a state.
use Rattle.std.specs.Prelude.{ℕ, suc, ◌+◌, ◌-◌, ◌≡◌, ◌<◌, ◌≤◌, ◌⊎◌, ◌==◌, cond, true, false, ℤ, pos, ◌*ℤ◌, ◌≤ℤ◌, ◌<ℤ◌, List, [], ◌∷◌, length, take, Option, Some, None, IsSome, is_some}
use Rattle.std.specs.List.{AllByRecursion, enumerate_from, slice_get}
use Rattle.bz_algebra.specs.Sums.{dot}
use Rattle.bz_num.specs.Dense.{entry}
use Rattle.bz_model.specs.declared.BlockPart.{BlockPart}
use Rattle.bz_model.specs.declared.Master.{Master}
use Rattle.bz_model.specs.Parting.{blocks_of, inequalities_of, integers_of}
use Rattle.bz_model.specs.PartPoints.{HasBlockShape, HoldsInBlock, HoldsInMaster}
use Rattle.bz_model.specs.PointFits.{FitsBlock, FitsInMaster}
use Rattle.bz_model.specs.Points.{coordinate}
use Rattle.bz_model.specs.Splits.{Decomposition}
use Rattle.bz_cut.specs.declared.Cut.{Cut}
use Rattle.bz_cut.specs.declared.Mode.{Mode}
use Rattle.bz_cut.specs.declared.Mode.TheVariants as mode
use Rattle.bz_cut.specs.Cuts.{IsValid}
use Rattle.bz_cut.specs.Fits.{FitsCut}
use Rattle.bz_cut.specs.Points.{CutsOff}
use Rattle.bz_tree.specs.declared.Leaf.{Leaf}
use Rattle.bz_tree.specs.Boxes.{Box}
use Rattle.bz_tree.specs.Integers.{IntegerHolds, integer_at, positions_of}
use Rattle.bz_tree.specs.Leaves.{LeafHolds}
use Rattle.bz_tree.specs.TreeFits.{FitsLeaf}
use Rattle.bz_tableau.specs.Answers.{IsLeast}
use Rattle.bz_tableau.specs.Programs.{program_of}
use Rattle.bz_tableau.specs.declared.answers.Vals.{Vals}
use Rattle.bz_tableau.specs.declared.answers.WideAt.{WideAt}
use Rattle.bz_tableau.specs.declared.programs.Lp.{Lp}
use Rattle.bz_std.specs.CutsOfBases.{CutOf}
use Rattle.bz_std.specs.Meanings.{differences}
use Rattle.bz_std.specs.Posed.{IsProgramOf}
use Rattle.bz_std.specs.Tasks.{IsMasterOf, IsSeparationLp, floor, node, node_cost}
use Rattle.bz_event.specs.declared.events.Entry.{Entry}
use Rattle.bz_event.specs.declared.events.Event.{Event}
use Rattle.bz_event.specs.declared.events.Event.TheVariants as event
use Rattle.bz_event.specs.declared.events.How.{How}
use Rattle.bz_event.specs.declared.events.How.TheVariants as how
use Rattle.bz_event.specs.declared.events.Why.{Why}
use Rattle.bz_event.specs.declared.events.Why.TheVariants as why
use Rattle.bz_event.specs.declared.answers.Solved.{Solved}
use Rattle.bz_event.specs.Floors.{IsFloorCut, IsFloorRay}
use Rattle.bz_event.specs.Nodes.{FitsValue, HasLeafOfValue, IsFirstFractional, IsRoundedDown, value_of}
use Rattle.bz_event.specs.Separations.{CompletesCost}
use Rattle.bz_event.specs.Stops.{StopsFloor, StopsNode, StopsSeparation}
use Rattle.bz_pool.specs.Pools.{IsNew, IsPlaceOf}
use Rattle.bz_history.specs.declared.state.Node.{Node}
use Rattle.bz_history.specs.declared.state.Post.{Post}
use Rattle.bz_history.specs.States.{State, box_of, effect, is_done, is_live, is_open, least_front, mode_of}

-- ---- what a state says
-- the item with this number
abbrev pub IsAt : {X : Type 0} → List X → ℕ → X → Type 0
IsAt xs i x = slice_get xs i ≡ Some x

-- value / den is less than other / other_den
abbrev pub IsBelow : ℤ → ℤ → ℤ → ℤ → Type 0
IsBelow value den other other_den = (value *ℤ other_den) <ℤ (other *ℤ den)

-- the post with this number is the best so far
abbrev pub IsBest : State → Post → Type 0
IsBest t post = (i : ℕ) × (t.best ≡ Some i) × IsAt t.posts i post

-- in mode Cost the best so far, where there is one, costs more than value / den
abbrev pub IsBetter : Decomposition → State → Mode → ℤ → ℤ → Type 0
IsBetter d t mode.Cost value den =
    (best : Post) → IsBest t best → IsBelow value den (value_of d.model d.part best.point) best.point.den
IsBetter d t mode.Point value den = Unit {0}

-- the node is open and has no live post
pub record IsWaiting (t : State) (number : ℕ) (node : Node) : Type 0 where
  pub is_node : IsAt t.nodes number node
  pub stands_open : is_open node ≡ true
  pub unposted : node.live ≡ None

-- the front is at least the node's least front, and at most the number of cuts
pub record IsFrontOf (d : Decomposition) (t : State) (node : Node) (front : ℕ) : Type 0 where
  pub at_least : least_front d (mode_of t) node ≤ front
  pub at_most : front ≤ length t.cuts

-- ---- floors
-- the block is the next without a floor, and no block's cost falls
pub record IsNextFloor (d : Decomposition) (t : State) (block : ℕ) : Type 0 where
  pub next : block ≡ suc (length t.floors)
  pub last : block ≤ blocks_of d.part
  pub no_ray : t.ray ≡ None

pub record IsFloorStep (d : Decomposition) (t : State) (block : ℕ) (basis : List ℕ) (cut : Cut) : Type 0 where
  pub next : IsNextFloor d t block
  pub lp : Lp
  pub program : IsProgramOf (floor d.model d.part block) lp
  pub of_basis : IsFloorCut d.model d.part block lp basis cut

pub record IsRayStep (d : Decomposition) (t : State) (block : ℕ) (direction : List ℤ) : Type 0 where
  pub next : IsNextFloor d t block
  pub ray : IsFloorRay d.model d.part block direction

-- ---- posts
-- none of the cuts cuts the point off
abbrev pub IsKeptBy : Master → List Cut → Type 0
IsKeptBy point cuts = AllByRecursion (λ cut. ¬ CutsOff cut point) cuts

-- The point is whole and lies in the box, meets the master's inequalities and the cuts; in mode Cost the leaf holds over
-- them and its bound is the point's value. No sum of the master's inequalities, of the leaf or of the value is wide.
pub record IsPostedPoint (d : Decomposition) (way : Mode) (box : Box) (cuts : List Cut) (point : Master)
    (leaf : Option Leaf) : Type 0 where
  pub shape : IsMasterOf d.part point
  pub rows : AllByRecursion (HoldsInMaster point) (inequalities_of d.model d.part 0)
  pub integers : AllByRecursion (IntegerHolds d.part box point) (enumerate_from 0 (integers_of d.model))
  pub kept : IsKeptBy point cuts
  pub leaf_is : HasLeafOfValue d.model d.part box cuts way (value_of d.model d.part point) point.den leaf
  pub fits : AllByRecursion (FitsInMaster point) (inequalities_of d.model d.part 0)
  pub fits_value : FitsValue d.model d.part way point

pub record IsPostStep (d : Decomposition) (t : State) (number front : ℕ) (point : Master) (leaf : Option Leaf)
    : Type 0 where
  pub node : Node
  pub waits : IsWaiting t number node
  pub front_is : IsFrontOf d t node front
  pub posted : IsPostedPoint d (mode_of t) (box_of node.region) (take front t.cuts) point leaf

-- ---- separations
-- the basis answers the relaxed separation of the cut's block at the point, and the cut is the basis's own: it is valid and
-- cuts the point off
pub record IsCutOfPoint (d : Decomposition) (way : Mode) (point : Master) (basis : List ℕ) (cut : Cut) : Type 0 where
  pub lp : Lp
  pub program : IsSeparationLp d.model d.part point cut.block way lp
  pub z : Vals
  pub y : Vals
  pub least : IsLeast true (program_of lp) basis z y
  pub of_basis : CutOf d.model d.part way cut.block basis cut
  pub first : 0 < cut.block
  pub last : cut.block ≤ blocks_of d.part
  pub valid : IsValid d.model d.part cut
  pub cuts_off : CutsOff cut point

-- no sum or product is wide that tells that the cut is valid
pub record IsAppendStep (d : Decomposition) (budget : ℕ) (t : State) (number : ℕ) (basis : List ℕ) (cut : Cut)
    : Type 0 where
  pub post : Post
  pub is_post : IsAt t.posts number post
  pub of_point : IsCutOfPoint d (mode_of t) post.point basis cut
  pub fits : FitsCut d.model d.part cut
  pub new : IsNew t.cuts cut
  pub units : t.units < budget

-- a cut that says the same is there already, and came after those of the post's front
pub record IsAgainStep (d : Decomposition) (t : State) (number : ℕ) (basis : List ℕ) (place : ℕ) : Type 0 where
  pub post : Post
  pub is_post : IsAt t.posts number post
  pub cut : Cut
  pub of_point : IsCutOfPoint d (mode_of t) post.point basis cut
  pub known : IsPlaceOf t.cuts cut place
  pub after : post.front ≤ place

-- The part completes the point in the block: the block's inequalities hold, in mode Cost at a cost of at most the block's
-- eta. No sum or product is wide that tells so.
pub record IsCompletion (d : Decomposition) (way : Mode) (point : Master) (block : ℕ) (y : BlockPart) : Type 0 where
  pub shape : HasBlockShape d.part (block, y)
  pub rows : AllByRecursion (HoldsInBlock point y) (inequalities_of d.model d.part block)
  pub fits : FitsBlock d.model d.part point block y
  pub cost : CompletesCost d.model d.part block point way y

pub record IsFillStep (d : Decomposition) (t : State) (number block : ℕ) (y : BlockPart) : Type 0 where
  pub post : Post
  pub is_post : IsAt t.posts number post
  pub live : is_live post ≡ true
  pub first : 0 < block
  pub last : block ≤ blocks_of d.part
  pub empty : slice_get post.fills (block - 1) ≡ Some None
  pub completes : IsCompletion d (mode_of t) post.point block y

-- each block is completed
abbrev pub IsFilled : Post → Type 0
IsFilled post = AllByRecursion (λ fill. is_some fill ≡ true) post.fills

pub record IsIncumbentStep (d : Decomposition) (t : State) (number : ℕ) : Type 0 where
  pub post : Post
  pub is_post : IsAt t.posts number post
  pub live : is_live post ≡ true
  pub filled : IsFilled post
  pub better : IsBetter d t (mode_of t) (value_of d.model d.part post.point) post.point.den

-- ---- closings
-- The basis answers the node's program over the front with a least point, at which the integer column at the position is
-- the first that isn't whole. In mode Cost the point costs less than the best so far.
pub record IsSplitStep (d : Decomposition) (t : State) (number front : ℕ) (basis : List ℕ) (position : ℕ) (value : ℤ)
    : Type 0 where
  pub waiting : Node
  pub waits : IsWaiting t number waiting
  pub front_is : IsFrontOf d t waiting front
  pub lp : Lp
  pub program : IsProgramOf (node d.model d.part (box_of waiting.region) (take front t.cuts) (mode_of t)) lp
  pub z : Vals
  pub y : Vals
  pub least : IsLeast false (program_of lp) basis z y
  pub first : IsFirstFractional (positions_of d.model d.part) (differences (entry z.num)) z.den position
  pub rounded : IsRoundedDown (differences (entry z.num) position) z.den value
  pub at_least : coordinate waiting.region.lower (integer_at d.model d.part position) ≤ℤ value
  pub below : value <ℤ coordinate waiting.region.upper (integer_at d.model d.part position)
  pub better : IsBetter d t (mode_of t) (dot (node_cost d.model d.part mode.Cost) (differences (entry z.num))) z.den

-- the leaf is empty, or its bound is no less than the value of the best so far
abbrev pub ReachesBest : Decomposition → State → Leaf → Type 0
ReachesBest d t leaf =
    (leaf.delta ≡ pos 0)
    ⊎ ((best : Post) × IsBest t best × ((pos 0) <ℤ leaf.delta)
    × ((value_of d.model d.part best.point *ℤ leaf.delta) ≤ℤ (leaf.bound *ℤ best.point.den)))

pub record IsLeafStep (d : Decomposition) (t : State) (number front : ℕ) (leaf : Leaf) : Type 0 where
  pub node : Node
  pub is_node : IsAt t.nodes number node
  pub stands_open : is_open node ≡ true
  pub at_most : front ≤ length t.cuts
  pub holds : LeafHolds d.model d.part (box_of node.region) (take front t.cuts) leaf
  pub fits : FitsLeaf d.model d.part (box_of node.region) (take front t.cuts) leaf
  pub reaches : ReachesBest d t leaf

abbrev pub IsClosing : Decomposition → State → ℕ → How → Type 0
IsClosing d t number (how.Split front basis position value) = IsSplitStep d t number front basis position value
IsClosing d t number (how.Leaf front leaf) = IsLeafStep d t number front leaf

pub record IsCloseStep (d : Decomposition) (budget : ℕ) (t : State) (number : ℕ) (h : How) : Type 0 where
  pub closing : IsClosing d t number h
  pub units : t.units < budget

-- ---- stops
-- while a block has no floor and no block's cost falls, the floors are the only tasks
abbrev pub AreFloorsReady : Decomposition → State → Type 0
AreFloorsReady d t = (length t.floors ≡ blocks_of d.part) ⊎ IsSome t.ray

-- the floor of the next block stops
pub record IsStoppedFloor (d : Decomposition) (t : State) (s : Solved WideAt) : Type 0 where
  pub block : ℕ
  pub next : IsNextFloor d t block
  pub stops : StopsFloor d.model d.part block s

-- a waiting node stops, over a front from its least one up
pub record IsStoppedNode (d : Decomposition) (t : State) (s : Solved WideAt) : Type 0 where
  pub ready : AreFloorsReady d t
  pub number : ℕ
  pub front : ℕ
  pub node : Node
  pub waits : IsWaiting t number node
  pub front_is : IsFrontOf d t node front
  pub stops : StopsNode d.model d.part number front (box_of node.region) (take front t.cuts) (mode_of t) s

-- the separation of a live post stops, of a block that isn't completed
pub record IsStoppedSeparation (d : Decomposition) (t : State) (s : Solved WideAt) : Type 0 where
  pub number : ℕ
  pub block : ℕ
  pub post : Post
  pub is_post : IsAt t.posts number post
  pub live : is_live post ≡ true
  pub empty : slice_get post.fills (block - 1) ≡ Some None
  pub stops : StopsSeparation d.model d.part number block post.point (mode_of t) s

-- the units are spent and a node is open, or a task stops at a wide number
abbrev pub IsStopStep : Decomposition → ℕ → State → Why → Type 0
IsStopStep d budget t why.Budget =
    (t.units ≡ budget) × ((number : ℕ) × (node : Node) × IsAt t.nodes number node × (is_open node ≡ true))
IsStopStep d budget t (why.Wide s) =
    IsStoppedFloor d t s ⊎ (IsStoppedNode d t s ⊎ IsStoppedSeparation d t s)

-- ---- histories
-- the event may follow the state
abbrev pub MayFollow : Decomposition → ℕ → State → Event → Type 0
MayFollow d budget t (event.Floor block basis cut) = IsFloorStep d t block basis cut
MayFollow d budget t (event.Ray block direction) = IsRayStep d t block direction
MayFollow d budget t (event.Post number front point leaf) = IsPostStep d t number front point leaf
MayFollow d budget t (event.Append post basis cut) = IsAppendStep d budget t post basis cut
MayFollow d budget t (event.Again post basis place) = IsAgainStep d t post basis place
MayFollow d budget t (event.Fill post block y) = IsFillStep d t post block y
MayFollow d budget t (event.Incumbent post) = IsIncumbentStep d t post
MayFollow d budget t (event.Close number h) = IsCloseStep d budget t number h
MayFollow d budget t (event.Stop reason) = IsStopStep d budget t reason

-- The entry may follow the state: the search isn't done, the stamp has the number of its worker's entries before, and the
-- event may follow.
pub record IsStep (d : Decomposition) (budget : ℕ) (counts : ℕ → ℕ) (t : State) (e : Entry) : Type 0 where
  pub running : is_done t ≡ false
  pub stamp : e.stamp.count ≡ counts e.stamp.worker
  pub may : MayFollow d budget t e.event

-- the numbers of each worker's entries with one more entry
abbrev pub counted : (ℕ → ℕ) → Entry → ℕ → ℕ
counted counts e worker = counts worker + cond (e.stamp.worker == worker) 1 0

-- each entry may follow the state after those before it
abbrev pub IsLegalFrom : Decomposition → ℕ → (ℕ → ℕ) → State → List Entry → Type 0
IsLegalFrom d budget counts t [] = Unit {0}
IsLegalFrom d budget counts t (e ∷ es) =
    IsStep d budget counts t e × IsLegalFrom d budget (counted counts e) (effect d t e.event) es
