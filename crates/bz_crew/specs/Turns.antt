-- Tasks as a search has them, their solutions, and what a worker's turn makes of the search.
use Rattle.std.specs.Prelude.{ℕ, ◌≡◌, ◌<◌, Bool, true, false, take}
use Rattle.bz_first.specs.Tests.{AllHold}
use Rattle.bz_model.specs.Splits.{Decomposition}
use Rattle.bz_tableau.specs.declared.answers.WideAt.{WideAt}
use Rattle.bz_event.specs.declared.answers.NodeAnswer.{NodeAnswer}
use Rattle.bz_event.specs.declared.answers.SepAnswer.{SepAnswer}
use Rattle.bz_event.specs.declared.answers.Solved.{Solved}
use Rattle.bz_event.specs.declared.answers.TaskStop.{TaskStop}
use Rattle.bz_event.specs.declared.answers.TaskStop.TheVariants as stop
use Rattle.bz_event.specs.Nodes.{SolvesNode}
use Rattle.bz_event.specs.Separations.{SolvesSeparation}
use Rattle.bz_event.specs.Stops.{EndsNode, EndsSeparation, StopsSomeTask}
use Rattle.bz_history.specs.declared.state.Node.{Node}
use Rattle.bz_history.specs.declared.state.Post.{Post}
use Rattle.bz_history.specs.States.{State, box_of, is_done, mode_of}
use Rattle.bz_history.specs.Steps.{IsAt, IsFrontOf}
use Rattle.bz_rules.specs.Rules.{stop_answer_rules}
use Rattle.bz_ending.specs.Work.{work_left}
use Rattle.bz_core.specs.Searches.{Seen, now}
use Rattle.bz_core.specs.Tasks.{IsNodeTask}
use Rattle.bz_crew.specs.Alone.{AreOfWorkerZero, IsAlone, IsAloneWith}

-- ---- tasks and their solutions
-- the node is a task, and may be solved over the first `front` cuts
pub record IsNodeTaskOver (d : Decomposition) (t : State) (number front : ℕ) : Type 0 where
  pub task : IsNodeTask d t number
  pub front_is : IsFrontOf d t task.node front

-- the node of the state is solved over the first `front` of its cuts, in its mode
pub record SolvesNodeOf (d : Decomposition) (t : State) (number front : ℕ) (s : Solved NodeAnswer) : Type 0 where
  pub node : Node
  pub is_node : IsAt t.nodes number node
  pub solves : SolvesNode d.model d.part number front (box_of node.region) (take front t.cuts) (mode_of t) s

-- it stops there
pub record EndsNodeOf (d : Decomposition) (t : State) (number front : ℕ) (why : TaskStop) : Type 0 where
  pub node : Node
  pub is_node : IsAt t.nodes number node
  pub ends : EndsNode d.model d.part number front (box_of node.region) (take front t.cuts) (mode_of t) why

-- the block is separated at the post's point, in the state's mode
pub record SolvesSeparationOf (d : Decomposition) (t : State) (number block : ℕ) (s : Solved SepAnswer) : Type 0 where
  pub post : Post
  pub is_post : IsAt t.posts number post
  pub solves : SolvesSeparation d.model d.part number block post.point (mode_of t) s

-- it stops there
pub record EndsSeparationOf (d : Decomposition) (t : State) (number block : ℕ) (why : TaskStop) : Type 0 where
  pub post : Post
  pub is_post : IsAt t.posts number post
  pub ends : EndsSeparation d.model d.part number block post.point (mode_of t) why

-- ---- stops
-- where a task stops, with all that worker 0 needs to give it
pub record MayGiveWide (v : Seen) (s : Solved WideAt) : Type 0 where
  pub promise : StopsSomeTask v.split.model v.split.part s
  pub rules : AllHold (stop_answer_rules v.split (now v) s)
  pub alone : IsAloneWith s.task v

-- the stop is such, or want of memory
abbrev pub MayGiveStop : Seen → TaskStop → Type 0
MayGiveStop v (stop.Wide s) = MayGiveWide v s
MayGiveStop v stop.OutOfMemory = Unit {0}

-- ---- turns
-- The search goes on, over the same split and budget and from the same region: nothing is handed out, each entry is
-- worker 0's, and less work is left.
pub record LeadsOn (old new : Seen) : Type 0 where
  pub split : new.split ≡ old.split
  pub budget : new.budget ≡ old.budget
  pub root : new.root ≡ old.root
  pub alone : IsAlone new
  pub less : work_left new.split new.budget (now new) < work_left old.split old.budget (now old)

-- the search is over, and nothing is changed
pub record StaysDone (old new : Seen) : Type 0 where
  pub same : new ≡ old
  pub done : is_done (now new) ≡ true

-- a task is done, or there is none since the search is over
abbrev pub Turns : Seen → Seen → Bool → Type 0
Turns old new true = LeadsOn old new
Turns old new false = StaysDone old new

-- the search is over, over the same split and budget and from the same region, and each entry is worker 0's
pub record ComesToItsEnd (old new : Seen) : Type 0 where
  pub split : new.split ≡ old.split
  pub budget : new.budget ≡ old.budget
  pub root : new.root ≡ old.root
  pub own : AreOfWorkerZero new.history
  pub done : is_done (now new) ≡ true
