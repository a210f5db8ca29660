-- What an accepted answer appends to the history: at most four events, as a function of the state and the answer.
use Rattle.std.specs.Prelude.{ℕ, ◌-◌, ◌≡◌, ◌*ℤ◌, int_le, not, ◌&&◌, ◌==◌, Bool, true, false, List, [], ◌∷◌, ◌++◌, cond, length, set, Option, Some, None, is_none}
use Rattle.std.specs.List.{list_any, slice_get}
use Rattle.bz_model.specs.declared.BlockPart.{BlockPart}
use Rattle.bz_model.specs.declared.Master.{Master}
use Rattle.bz_model.specs.Parting.{blocks_of}
use Rattle.bz_model.specs.Splits.{Decomposition}
use Rattle.bz_cut.specs.declared.Cut.{Cut}
use Rattle.bz_cut.specs.declared.Mode.{Mode}
use Rattle.bz_cut.specs.declared.Mode.TheVariants as mode
use Rattle.bz_tree.specs.declared.Leaf.{Leaf}
use Rattle.bz_tableau.specs.declared.answers.WideAt.{WideAt}
use Rattle.bz_event.specs.declared.answers.FloorAnswer.{FloorAnswer}
use Rattle.bz_event.specs.declared.answers.FloorAnswer.TheVariants as floor_answer
use Rattle.bz_event.specs.declared.answers.NodeAnswer.{NodeAnswer}
use Rattle.bz_event.specs.declared.answers.NodeAnswer.TheVariants as node_answer
use Rattle.bz_event.specs.declared.answers.SepAnswer.{SepAnswer}
use Rattle.bz_event.specs.declared.answers.SepAnswer.TheVariants as sep_answer
use Rattle.bz_event.specs.declared.answers.Solved.{Solved}
use Rattle.bz_event.specs.declared.events.Event.{Event}
use Rattle.bz_event.specs.declared.events.Event.TheVariants as event
use Rattle.bz_event.specs.declared.events.How.TheVariants as how
use Rattle.bz_event.specs.declared.events.Why.TheVariants as why
use Rattle.bz_event.specs.declared.tasks.TaskName.{TaskName}
use Rattle.bz_event.specs.declared.tasks.TaskName.TheVariants as name
use Rattle.bz_event.specs.Nodes.{value_of}
use Rattle.bz_history.specs.declared.state.Post.{Post}
use Rattle.bz_history.specs.States.{State, effect, is_done, mode_of}
use Rattle.bz_pool.specs.Pools.{IsNew, IsPlaceOf}

-- ---- the best post so far
abbrev pub post_of : List Post → Option ℕ → Option Post
post_of posts None = None
post_of posts (Some number) = slice_get posts number

abbrev pub best_post : State → Option Post
best_post t = post_of t.posts t.best

-- the post's value is at most the leaf's bound over its delta
abbrev pub is_reached : Decomposition → Leaf → Option Post → Bool
is_reached d leaf None = false
is_reached d leaf (Some best) = int_le (value_of d.model d.part best.point *ℤ leaf.delta) (leaf.bound *ℤ best.point.den)

-- the point's value is below the post's, where there is a post
abbrev pub is_below : Decomposition → Master → Option Post → Bool
is_below d point None = true
is_below d point (Some best) =
    not (int_le (value_of d.model d.part best.point *ℤ point.den) (value_of d.model d.part point *ℤ best.point.den))

-- in mode Cost the point's value is below that of the best post so far; in mode Point any point will do
abbrev pub is_better : Decomposition → State → Mode → Master → Bool
is_better d t mode.Cost point = is_below d point (best_post t)
is_better d t mode.Point point = true

-- the leaf, where it is there and reaches the best post so far
abbrev pub reaching : Decomposition → State → Option Leaf → Option Leaf
reaching d t None = None
reaching d t (Some leaf) = cond (is_reached d leaf (best_post t)) (Some leaf) None

-- ---- floors
abbrev pub floor_events : (block : ℕ) → FloorAnswer → List Event
floor_events block (floor_answer.Floor basis cut) = event.Floor block basis cut ∷ []
floor_events block (floor_answer.Ray d) = event.Ray block d ∷ []

-- ---- posts that are complete
-- in mode Cost the node is closed by the post's leaf
abbrev pub leaf_events : Mode → (node front : ℕ) → Option Leaf → List Event
leaf_events mode.Cost node front (Some leaf) = event.Close node (how.Leaf front leaf) ∷ []
leaf_events mode.Cost node front None = []
leaf_events mode.Point node front leaf = []

-- the post becomes the best where it is better than the best so far, and in mode Cost its node is closed
abbrev pub complete_events : Decomposition → State → (number node front : ℕ) → Master → Option Leaf → List Event
complete_events d t number node front point leaf =
    cond (is_better d t (mode_of t) point) (event.Incumbent number ∷ []) []
    ++ leaf_events (mode_of t) node front leaf

-- ---- nodes
-- a leaf that reaches the best closes the node
abbrev pub unless_reaching : (node front : ℕ) → Option Leaf → List Event → List Event
unless_reaching node front None events = events
unless_reaching node front (Some leaf) events = event.Close node (how.Leaf front leaf) ∷ []

-- the point is posted; with no blocks it is complete
abbrev pub point_events : Decomposition → State → (node front : ℕ) → Master → Option Leaf → List Event
point_events d t node front point leaf =
    event.Post node front point leaf
    ∷ cond (blocks_of d.part == 0) (complete_events d t (length t.posts) node front point leaf) []

abbrev pub node_events : Decomposition → State → (node front : ℕ) → NodeAnswer → List Event
node_events d t node front (node_answer.Empty leaf) = event.Close node (how.Leaf front leaf) ∷ []
node_events d t node front (node_answer.Split basis position value leaf) =
    unless_reaching node front (reaching d t leaf) (event.Close node (how.Split front basis position value) ∷ [])
node_events d t node front (node_answer.Point point leaf) =
    unless_reaching node front (reaching d t leaf) (point_events d t node front point leaf)

-- ---- separations
-- the number of a cut that says the same, where the pool has one
abbrev pub IsKnown : List Cut → Cut → Option ℕ → Type 0
IsKnown cuts cut None = IsNew cuts cut
IsKnown cuts cut (Some number) = IsPlaceOf cuts cut number

-- a cut that the pool has is not appended again
abbrev pub cut_events : (post : ℕ) → List ℕ → Cut → (known : Option ℕ) → List Event
cut_events post basis cut None = event.Append post basis cut ∷ []
cut_events post basis cut (Some number) = event.Again post basis number ∷ []

-- with this block each is filled
abbrev pub is_last : (block : ℕ) → BlockPart → (at : ℕ) → Post → Bool
is_last block y at post = not (list_any (λ fill. is_none fill) (set post.fills (block - 1) (Some (record { y = y; at = at }))))

-- the block is filled; where it was the last, the post is complete
abbrev pub fill_events : Decomposition → State → (number block : ℕ) → BlockPart → Option Post → List Event
fill_events d t number block y None = []
fill_events d t number block y (Some post) =
    event.Fill number block y
    ∷ cond (is_last block y t.entries post) (complete_events d t number post.node post.front post.point post.leaf) []

abbrev pub separation_events : Decomposition → State → (number block : ℕ) → (known : Option ℕ) → SepAnswer → List Event
separation_events d t number block known (sep_answer.Cut basis cut) = cut_events number basis cut known
separation_events d t number block known (sep_answer.Fill y) = fill_events d t number block y (slice_get t.posts number)

-- a cut that is answered has this number in the pool, or is new
abbrev pub IsKnownAnswer : List Cut → Option ℕ → SepAnswer → Type 0
IsKnownAnswer cuts known (sep_answer.Cut basis cut) = IsKnown cuts cut known
IsKnownAnswer cuts known (sep_answer.Fill y) = known ≡ None

-- ---- the end of the budget
-- the state after the events, in their order
abbrev pub after : Decomposition → State → List Event → State
after d t [] = t
after d t (e ∷ es) = after d (effect d t e) es

-- the units are spent, and the search isn't done, so that a node is open
abbrev pub is_spent : (budget : ℕ) → State → Bool
is_spent budget t = (t.units == budget) && not (is_done t)

-- the events, and then the stop for the budget where the units are spent
abbrev pub and_stop : Decomposition → (budget : ℕ) → State → List Event → List Event
and_stop d budget t events = events ++ cond (is_spent budget (after d t events)) (event.Stop why.Budget ∷ []) []

-- ---- by the task that is answered
abbrev pub floor_task_events : FloorAnswer → TaskName → List Event
floor_task_events a (name.Floor block) = floor_events block a
floor_task_events a (name.Node node front) = []
floor_task_events a (name.Sep post block) = []

abbrev pub node_task_events : Decomposition → State → NodeAnswer → TaskName → List Event
node_task_events d t a (name.Floor block) = []
node_task_events d t a (name.Node node front) = node_events d t node front a
node_task_events d t a (name.Sep post block) = []

abbrev pub separation_task_events : Decomposition → State → (known : Option ℕ) → SepAnswer → TaskName → List Event
separation_task_events d t known a (name.Floor block) = []
separation_task_events d t known a (name.Node node front) = []
separation_task_events d t known a (name.Sep post block) = separation_events d t post block known a

abbrev pub floor_entries : Decomposition → (budget : ℕ) → State → Solved FloorAnswer → List Event
floor_entries d budget t s = and_stop d budget t (floor_task_events s.answer s.task)

abbrev pub node_entries : Decomposition → (budget : ℕ) → State → Solved NodeAnswer → List Event
node_entries d budget t s = and_stop d budget t (node_task_events d t s.answer s.task)

abbrev pub separation_entries : Decomposition → (budget : ℕ) → State → (known : Option ℕ) → Solved SepAnswer → List Event
separation_entries d budget t known s = and_stop d budget t (separation_task_events d t known s.answer s.task)

abbrev pub stop_entries : Decomposition → (budget : ℕ) → State → Solved WideAt → List Event
stop_entries d budget t s = and_stop d budget t (event.Stop (why.Wide s) ∷ [])
