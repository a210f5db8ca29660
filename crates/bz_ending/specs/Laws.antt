-- What is proved of the end of a search: each accepted answer leaves less work than there was.
use Rattle.std.specs.Prelude.{ℕ, ◌≡◌, ◌<◌, true, List, Option}
use Rattle.bz_first.specs.Tests.{AllHold}
use Rattle.bz_model.specs.Splits.{Decomposition}
use Rattle.bz_tableau.specs.declared.answers.WideAt.{WideAt}
use Rattle.bz_event.specs.declared.answers.FloorAnswer.{FloorAnswer}
use Rattle.bz_event.specs.declared.answers.NodeAnswer.{NodeAnswer}
use Rattle.bz_event.specs.declared.answers.SepAnswer.{SepAnswer}
use Rattle.bz_event.specs.declared.answers.Solved.{Solved}
use Rattle.bz_event.specs.declared.events.Entry.{Entry}
use Rattle.bz_event.specs.declared.tasks.TaskName.{TaskName}
use Rattle.bz_event.specs.declared.tasks.TaskName.TheVariants as name
use Rattle.bz_event.specs.Floors.{SolvesSomeFloor}
use Rattle.bz_event.specs.Nodes.{SolvesSomeNode}
use Rattle.bz_event.specs.Separations.{SolvesSomeSeparation}
use Rattle.bz_event.specs.Stops.{StopsSomeTask}
use Rattle.bz_history.specs.declared.state.Post.{Post}
use Rattle.bz_history.specs.declared.state.Region.{Region}
use Rattle.bz_history.specs.States.{State, is_live}
use Rattle.bz_history.specs.Steps.{IsAt}
use Rattle.bz_rules.specs.Entries.{IsKnownAnswer, after, floor_entries, node_entries, separation_entries, stop_entries}
use Rattle.bz_rules.specs.Following.{IsUnderWay}
use Rattle.bz_rules.specs.Rules.{floor_answer_rules, node_answer_rules, separation_answer_rules, stop_answer_rules}
use Rattle.bz_ending.specs.Work.{work_left}

-- a separation is one of a live post
abbrev pub IsLiveTask : State → TaskName → Type 0
IsLiveTask t (name.Floor block) = Unit {0}
IsLiveTask t (name.Node number front) = Unit {0}
IsLiveTask t (name.Sep number block) = (post : Post) → IsAt t.posts number post → is_live post ≡ true

-- Where the rules hold of an answer that keeps its maker's promise, the state after its entries has less work left. Only a
-- cut of a post that has ended is told apart: it costs a unit, or nothing where the pool has it.
pub record AnswersLower : Type 0 where
  pub floors : (d : Decomposition) (budget : ℕ) (root : Region) (es : List Entry) (t : State) (s : Solved FloorAnswer) →
      IsUnderWay d budget root es t → SolvesSomeFloor d.model d.part s → AllHold (floor_answer_rules d t s) →
      work_left d budget (after d t (floor_entries d budget t s)) < work_left d budget t
  pub nodes : (d : Decomposition) (budget : ℕ) (root : Region) (es : List Entry) (t : State) (s : Solved NodeAnswer) →
      IsUnderWay d budget root es t → SolvesSomeNode d.model d.part s → AllHold (node_answer_rules d t s) →
      work_left d budget (after d t (node_entries d budget t s)) < work_left d budget t
  pub separations : (d : Decomposition) (budget : ℕ) (root : Region) (es : List Entry) (t : State) (known : Option ℕ)
      (s : Solved SepAnswer) →
      IsUnderWay d budget root es t → SolvesSomeSeparation d.model d.part s → AllHold (separation_answer_rules d t s) →
      IsKnownAnswer t.cuts known s.answer → IsLiveTask t s.task →
      work_left d budget (after d t (separation_entries d budget t known s)) < work_left d budget t
  pub stops : (d : Decomposition) (budget : ℕ) (root : Region) (es : List Entry) (t : State) (s : Solved WideAt) →
      IsUnderWay d budget root es t → StopsSomeTask d.model d.part s → AllHold (stop_answer_rules d t s) →
      work_left d budget (after d t (stop_entries d budget t s)) < work_left d budget t
