-- An answer appends at most four entries: three of its own, and the stop for the budget.
use Rattle.std.proofs.Common.{true, false, ℕ, ◌≤◌, List, [], ◌∷◌, length, arith}
use Rattle.std.proofs.lemmas.List.{length-append}
use Rattle.std.specs.Prelude.{Option, Some, None, Bool, cond, ◌==◌}
use Rattle.std.specs.List.{slice_get}
use Rattle.bz_model.specs.declared.BlockPart.{BlockPart}
use Rattle.bz_model.specs.declared.Master.{Master}
use Rattle.bz_model.specs.Parting.{blocks_of}
use Rattle.bz_model.specs.Splits.{Decomposition}
use Rattle.bz_cut.specs.declared.Mode.{Mode}
use Rattle.bz_cut.specs.declared.Mode.TheVariants as mode
use Rattle.bz_tree.specs.declared.Leaf.{Leaf}
use Rattle.bz_event.specs.declared.answers.FloorAnswer.{FloorAnswer}
use Rattle.bz_event.specs.declared.answers.FloorAnswer.TheVariants as floor_answer
use Rattle.bz_event.specs.declared.answers.NodeAnswer.{NodeAnswer}
use Rattle.bz_event.specs.declared.answers.NodeAnswer.TheVariants as node_answer
use Rattle.bz_event.specs.declared.answers.SepAnswer.{SepAnswer}
use Rattle.bz_event.specs.declared.answers.SepAnswer.TheVariants as sep_answer
use Rattle.bz_event.specs.declared.events.Event.{Event}
use Rattle.bz_event.specs.declared.events.Event.TheVariants as event
use Rattle.bz_event.specs.declared.events.Why.TheVariants as why
use Rattle.bz_event.specs.declared.tasks.TaskName.{TaskName}
use Rattle.bz_event.specs.declared.tasks.TaskName.TheVariants as name
use Rattle.bz_history.specs.declared.state.Post.{Post}
use Rattle.bz_history.specs.States.{State, mode_of}
use Rattle.bz_rules.specs.Entries.{after, and_stop, complete_events, cut_events, fill_events, floor_task_events, is_better, is_last, is_spent, leaf_events, node_task_events, point_events, reaching, separation_task_events, unless_reaching}
use Rattle.bz_rules.specs.Laws.{EntriesAreFew}

one_at_most : (b : Bool) (e : Event) → length (cond b (e ∷ []) []) ≤ 1
one_at_most true e = omega arith
one_at_most false e = omega arith

where_at_most : (b : Bool) (n : ℕ) (events : List Event) → length events ≤ n → length (cond b events []) ≤ n
where_at_most true n events h = h
where_at_most false n events h = omega arith

few_and_stop : (d : Decomposition) (budget : ℕ) (t : State) (events : List Event) → length events ≤ 3 → length (and_stop d budget t events) ≤ 4
few_and_stop d budget t events h =
    omega (arith, h, length-append events (cond (is_spent budget (after d t events)) (event.Stop why.Budget ∷ []) []), one_at_most (is_spent budget (after d t events)) (event.Stop why.Budget))

leaf_at_most : (way : Mode) (node front : ℕ) (o : Option Leaf) → length (leaf_events way node front o) ≤ 1
leaf_at_most mode.Cost node front (Some leaf) = omega arith
leaf_at_most mode.Cost node front None = omega arith
leaf_at_most mode.Point node front o = omega arith

complete_at_most : (d : Decomposition) (t : State) (number node front : ℕ) (point : Master) (o : Option Leaf) → length (complete_events d t number node front point o) ≤ 2
complete_at_most d t number node front point o =
    omega (
      arith,
      length-append (cond (is_better d t (mode_of t) point) (event.Incumbent number ∷ []) []) (leaf_events (mode_of t) node front o),
      one_at_most (is_better d t (mode_of t) point) (event.Incumbent number),
      leaf_at_most (mode_of t) node front o,
    )

point_at_most : (d : Decomposition) (t : State) (node front : ℕ) (point : Master) (o : Option Leaf) → length (point_events d t node front point o) ≤ 3
point_at_most d t node front point o =
    omega (arith, where_at_most (blocks_of d.part == 0) 2 (complete_events d t (length t.posts) node front point o) (complete_at_most d t (length t.posts) node front point o))

fill_at_most : (d : Decomposition) (t : State) (number block : ℕ) (y : BlockPart) (o : Option Post) → length (fill_events d t number block y o) ≤ 3
fill_at_most d t number block y None = omega arith
fill_at_most d t number block y (Some post) =
    omega (arith, where_at_most (is_last block y t.entries post) 2 (complete_events d t number post.node post.front post.point post.leaf) (complete_at_most d t number post.node post.front post.point post.leaf))

unless_at_most : (node front : ℕ) (o : Option Leaf) (events : List Event) → length events ≤ 3 → length (unless_reaching node front o events) ≤ 3
unless_at_most node front None events h = h
unless_at_most node front (Some leaf) events h = omega arith

floor_few : (a : FloorAnswer) (n : TaskName) → length (floor_task_events a n) ≤ 3
floor_few (floor_answer.Floor basis cut) (name.Floor block) = omega arith
floor_few (floor_answer.Ray r) (name.Floor block) = omega arith
floor_few a (name.Node number front) = omega arith
floor_few a (name.Sep number block) = omega arith

node_few : (d : Decomposition) (t : State) (a : NodeAnswer) (n : TaskName) → length (node_task_events d t a n) ≤ 3
node_few d t a (name.Floor block) = omega arith
node_few d t (node_answer.Empty leaf) (name.Node number front) = omega arith
node_few d t (node_answer.Split basis position value leaf) (name.Node number front) = unless_at_most number front (reaching d t leaf) _ (omega arith)
node_few d t (node_answer.Point point leaf) (name.Node number front) = unless_at_most number front (reaching d t leaf) _ (point_at_most d t number front point leaf)
node_few d t a (name.Sep number block) = omega arith

cut_few : (post : ℕ) (basis : List ℕ) (cut : _) (known : Option ℕ) → length (cut_events post basis cut known) ≤ 3
cut_few post basis cut None = omega arith
cut_few post basis cut (Some number) = omega arith

separation_few : (d : Decomposition) (t : State) (known : Option ℕ) (a : SepAnswer) (n : TaskName) → length (separation_task_events d t known a n) ≤ 3
separation_few d t known a (name.Floor block) = omega arith
separation_few d t known a (name.Node number front) = omega arith
separation_few d t known (sep_answer.Cut basis cut) (name.Sep number block) = cut_few number basis cut known
separation_few d t known (sep_answer.Fill y) (name.Sep number block) = fill_at_most d t number block y (slice_get t.posts number)

pub entries_are_few : EntriesAreFew
entries_are_few = record {
  floors = λ d budget t s. few_and_stop d budget t _ (floor_few s.answer s.task);
  stops = λ d budget t s. few_and_stop d budget t (event.Stop (why.Wide s) ∷ []) (omega arith);
  nodes = λ d budget t s. few_and_stop d budget t _ (node_few d t s.answer s.task);
  separations = λ d budget t known s. few_and_stop d budget t _ (separation_few d t known s.answer s.task);
}
