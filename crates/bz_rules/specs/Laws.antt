-- What is proved of rules and entries: what is appended is legal.
use Rattle.std.specs.Prelude.{ℕ, ◌≤◌, List, ◌++◌, length, Option}
use Rattle.bz_first.specs.Tests.{AllHold}
use Rattle.bz_model.specs.Splits.{Decomposition}
use Rattle.bz_tableau.specs.declared.answers.WideAt.{WideAt}
use Rattle.bz_event.specs.declared.answers.FloorAnswer.{FloorAnswer}
use Rattle.bz_event.specs.declared.answers.NodeAnswer.{NodeAnswer}
use Rattle.bz_event.specs.declared.answers.SepAnswer.{SepAnswer}
use Rattle.bz_event.specs.declared.answers.Solved.{Solved}
use Rattle.bz_event.specs.declared.events.Entry.{Entry}
use Rattle.bz_event.specs.declared.events.Event.{Event}
use Rattle.bz_event.specs.Floors.{SolvesSomeFloor}
use Rattle.bz_event.specs.Nodes.{SolvesSomeNode}
use Rattle.bz_event.specs.Separations.{SolvesSomeSeparation}
use Rattle.bz_event.specs.Stops.{StopsSomeTask}
use Rattle.bz_history.specs.declared.state.Region.{Region}
use Rattle.bz_history.specs.Histories.{IsReplay, count_of}
use Rattle.bz_history.specs.States.{State}
use Rattle.bz_rules.specs.Entries.{IsKnownAnswer, after, and_stop, floor_entries, node_entries, separation_entries, stop_entries}
use Rattle.bz_rules.specs.Following.{FollowInTurn, HasUnits, IsUnderWay, stamped}
use Rattle.bz_rules.specs.Rules.{floor_answer_rules, node_answer_rules, separation_answer_rules, stop_answer_rules}

-- Events that follow in turn, stamped by a worker from the number of its entries up, make a legal history of the state after
-- them. With the stop for the budget behind them, units are left unless the search is done.
pub record HistoriesGoOn : Type 0 where
  pub legal : (d : Decomposition) (budget : ℕ) (root : Region) (es : List Entry) (t : State) (worker : ℕ) (events : List Event) →
      IsReplay d budget root es t → FollowInTurn d budget t events →
      IsReplay d budget root (es ++ stamped worker (count_of worker es) events) (after d t events)
  pub units : (d : Decomposition) (budget : ℕ) (root : Region) (es : List Entry) (t : State) (events : List Event) →
      IsReplay d budget root es t → FollowInTurn d budget t events →
      HasUnits budget (after d t (and_stop d budget t events))

-- Where the rules hold of an answer that keeps its maker's promise, each of its events may follow.
abbrev pub FloorsFollow : Type 0
FloorsFollow =
    (d : Decomposition) (budget : ℕ) (root : Region) (es : List Entry) (t : State) (s : Solved FloorAnswer) →
    IsUnderWay d budget root es t → SolvesSomeFloor d.model d.part s → AllHold (floor_answer_rules d t s) →
    FollowInTurn d budget t (floor_entries d budget t s)

abbrev pub NodesFollow : Type 0
NodesFollow =
    (d : Decomposition) (budget : ℕ) (root : Region) (es : List Entry) (t : State) (s : Solved NodeAnswer) →
    IsUnderWay d budget root es t → SolvesSomeNode d.model d.part s → AllHold (node_answer_rules d t s) →
    FollowInTurn d budget t (node_entries d budget t s)

abbrev pub SeparationsFollow : Type 0
SeparationsFollow =
    (d : Decomposition) (budget : ℕ) (root : Region) (es : List Entry) (t : State) (known : Option ℕ) (s : Solved SepAnswer) →
    IsUnderWay d budget root es t → SolvesSomeSeparation d.model d.part s → AllHold (separation_answer_rules d t s) →
    IsKnownAnswer t.cuts known s.answer → FollowInTurn d budget t (separation_entries d budget t known s)

abbrev pub StopsFollow : Type 0
StopsFollow =
    (d : Decomposition) (budget : ℕ) (root : Region) (es : List Entry) (t : State) (s : Solved WideAt) →
    IsUnderWay d budget root es t → StopsSomeTask d.model d.part s → AllHold (stop_answer_rules d t s) →
    FollowInTurn d budget t (stop_entries d budget t s)

-- An answer appends at most four entries.
pub record EntriesAreFew : Type 0 where
  pub floors : (d : Decomposition) (budget : ℕ) (t : State) (s : Solved FloorAnswer) → length (floor_entries d budget t s) ≤ 4
  pub stops : (d : Decomposition) (budget : ℕ) (t : State) (s : Solved WideAt) → length (stop_entries d budget t s) ≤ 4
  pub nodes : (d : Decomposition) (budget : ℕ) (t : State) (s : Solved NodeAnswer) → length (node_entries d budget t s) ≤ 4
  pub separations : (d : Decomposition) (budget : ℕ) (t : State) (known : Option ℕ) (s : Solved SepAnswer) →
      length (separation_entries d budget t known s) ≤ 4
