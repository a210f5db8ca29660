-- Where a node is handed out, all rules hold of its answer and of its stop.
use Rattle.std.proofs.Common.{◌≡◌, ℕ, false, take, subst, sym, inr}
use Rattle.std.specs.Prelude.{Option}
use Rattle.bz_first.specs.Tests.{AllHold}
use Rattle.bz_model.specs.Splits.{Decomposition}
use Rattle.bz_tableau.specs.declared.programs.Lp.{Lp}
use Rattle.bz_std.specs.Tasks.{IsNodeLp}
use Rattle.bz_event.specs.declared.answers.NodeAnswer.{NodeAnswer}
use Rattle.bz_event.specs.declared.answers.Solved.{Solved}
use Rattle.bz_event.specs.declared.answers.TaskStop.{TaskStop}
use Rattle.bz_event.specs.declared.answers.TaskStop.TheVariants as stop
use Rattle.bz_event.specs.declared.tasks.TaskName.{TaskName}
use Rattle.bz_event.specs.declared.tasks.TaskName.TheVariants as name
use Rattle.bz_event.specs.Nodes.{SolvesSomeNode}
use Rattle.bz_history.specs.declared.state.Node.{Node}
use Rattle.bz_history.specs.States.{State, box_of, is_done, mode_of}
use Rattle.bz_history.specs.Steps.{IsAt}
use Rattle.bz_history.proofs.Lists.{at_one}
use Rattle.bz_rules.specs.Rules.{node_answer_rules, node_rules, node_task_rules, stop_task_rules, waiting_rules, where_there}
use Rattle.bz_core.specs.Searches.{Seen, now}
use Rattle.bz_crew.specs.Alone.{IsAloneWith}
use Rattle.bz_crew.specs.Turns.{EndsNodeOf, IsNodeTaskOver, MayGiveStop, SolvesNodeOf}

rules_hold : (d : Decomposition) (t : State) (number front : ℕ) (lp : Lp) (node : Node) → is_done t ≡ false → IsNodeTaskOver d t number front
    → IsAt t.nodes number node → IsNodeLp d.model d.part (box_of node.region) (take front t.cuts) (mode_of t) lp → AllHold (node_rules d t number front lp)
rules_hold d t number front lp node running k at program =
    let own : IsNodeLp d.model d.part (box_of k.task.node.region) (take front t.cuts) (mode_of t) lp =
    subst (λ (x : Node). IsNodeLp d.model d.part (box_of x.region) (take front t.cuts) (mode_of t) lp) (at_one t.nodes number node k.task.node at k.task.waits.is_node) program in
    let waiting : AllHold (waiting_rules d t front lp k.task.node) =
    (k.front_is.at_most, (k.task.waits.stands_open, (k.task.waits.unposted, (k.task.ready, (k.front_is.at_least, (own, tt)))))) in
    (running, subst (λ (o : Option Node). AllHold (where_there o (waiting_rules d t front lp))) (sym k.task.waits.is_node) waiting)

pub node_fits : (d : Decomposition) (t : State) (number front : ℕ) (s : Solved NodeAnswer) → is_done t ≡ false → IsNodeTaskOver d t number front
    → SolvesNodeOf d t number front s → AllHold (node_answer_rules d t s)
node_fits d t number front s running k h =
    subst (λ (n : TaskName). AllHold (node_task_rules d t s.lp n)) (sym h.solves.task) (rules_hold d t number front s.lp h.node running k h.is_node h.solves.program)

-- what is promised of it
pub some_node : (d : Decomposition) (t : State) (number front : ℕ) (s : Solved NodeAnswer) → SolvesNodeOf d t number front s → SolvesSomeNode d.model d.part s
some_node d t number front s h = record {
  number = number;
  front = front;
  box = box_of h.node.region;
  cuts = take front t.cuts;
  way = mode_of t;
  solves = h.solves;
}

-- its stop may be given
pub node_stops : (v : Seen) (number front : ℕ) (why : TaskStop) → is_done (now v) ≡ false → IsNodeTaskOver v.split (now v) number front
    → IsAloneWith (name.Node number front) v → EndsNodeOf v.split (now v) number front why → MayGiveStop v why
node_stops v number front (stop.Wide s) running k alone h = record {
  promise = inr (inr (record {
    number = number;
    front = front;
    box = box_of h.node.region;
    cuts = take front (now v).cuts;
    way = mode_of (now v);
    stops = h.ends;
  }));
  rules = subst (λ (n : TaskName). AllHold (stop_task_rules v.split (now v) s.point s.lp s.answer n)) (sym h.ends.task)
      (rules_hold v.split (now v) number front s.lp h.node running k h.is_node h.ends.program);
  alone = subst (λ (n : TaskName). IsAloneWith n v) (sym h.ends.task) alone;
}
node_stops v number front stop.OutOfMemory running k alone h = tt
