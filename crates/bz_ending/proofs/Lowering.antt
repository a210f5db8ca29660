-- Each accepted answer lowers the work.
use Rattle.std.proofs.Common.{◌≡◌, true, sym, subst, ℕ, ◌<◌, ◌≤◌, List, [], ◌∷◌, ◌++◌, length, arith}
use Rattle.std.specs.Prelude.{Option, Some, None}
use Rattle.std.specs.List.{slice_get}
use Rattle.bz_first.specs.Tests.{AllHold}
use Rattle.bz_model.specs.Splits.{Decomposition}
use Rattle.bz_tree.specs.declared.Leaf.{Leaf}
use Rattle.bz_tableau.specs.declared.answers.WideAt.{WideAt}
use Rattle.bz_event.specs.declared.answers.FloorAnswer.{FloorAnswer}
use Rattle.bz_event.specs.declared.answers.FloorAnswer.TheVariants as floor_answer
use Rattle.bz_event.specs.declared.answers.NodeAnswer.{NodeAnswer}
use Rattle.bz_event.specs.declared.answers.NodeAnswer.TheVariants as node_answer
use Rattle.bz_event.specs.declared.answers.SepAnswer.{SepAnswer}
use Rattle.bz_event.specs.declared.answers.SepAnswer.TheVariants as sep_answer
use Rattle.bz_event.specs.declared.answers.Solved.{Solved}
use Rattle.bz_event.specs.declared.events.Entry.{Entry}
use Rattle.bz_event.specs.declared.events.Event.{Event}
use Rattle.bz_event.specs.declared.events.Event.TheVariants as event
use Rattle.bz_event.specs.declared.events.Why.TheVariants as why
use Rattle.bz_event.specs.declared.tasks.TaskName.{TaskName}
use Rattle.bz_event.specs.declared.tasks.TaskName.TheVariants as name
use Rattle.bz_event.specs.Floors.{SolvesSomeFloor}
use Rattle.bz_event.specs.Nodes.{SolvesSomeNode}
use Rattle.bz_event.specs.Separations.{SolvesSomeSeparation}
use Rattle.bz_event.specs.Stops.{StopsSomeTask}
use Rattle.bz_history.specs.declared.state.Post.{Post}
use Rattle.bz_history.specs.declared.state.Region.{Region}
use Rattle.bz_history.specs.Histories.{IsReplay, count_of}
use Rattle.bz_history.specs.Sizes.{AreSizes}
use Rattle.bz_history.specs.States.{State, effect, is_live}
use Rattle.bz_history.specs.Steps.{IsAt}
use Rattle.bz_history.proofs.LiveSteps.{lives_are_right}
use Rattle.bz_history.proofs.SizeSteps.{sizes_are_right}
use Rattle.bz_rules.specs.Entries.{IsKnownAnswer, after, and_stop, fill_events, floor_entries, floor_events, floor_task_events, node_entries, node_events, node_task_events, reaching, separation_entries, separation_events, separation_task_events, stop_entries, unless_reaching}
use Rattle.bz_rules.specs.Following.{FollowInTurn, IsUnderWay, stamped}
use Rattle.bz_rules.specs.Rules.{floor_answer_rules, node_answer_rules, separation_answer_rules, separation_rules, separation_task_rules, stop_answer_rules}
use Rattle.bz_rules.proofs.FloorsFollow.{floors_follow}
use Rattle.bz_rules.proofs.GoingOn.{histories_go_on}
use Rattle.bz_rules.proofs.NodesFollow.{nodes_follow}
use Rattle.bz_rules.proofs.SeparationsFollow.{separations_follow}
use Rattle.bz_rules.proofs.StopsFollow.{stops_follow}
use Rattle.bz_rules.proofs.Tasks.{there}
use Rattle.bz_ending.specs.Laws.{AnswersLower, IsLiveTask}
use Rattle.bz_ending.specs.Work.{most_cuts, work_left}
use Rattle.bz_ending.proofs.Events.{IsFalling, falls_after, kept_after}

-- ---- events in turn
-- a search has no more cuts than it can have
few_cuts : (d : Decomposition) (budget : ℕ) (es : List Entry) (t : State) → AreSizes d budget es t → length t.cuts ≤ most_cuts d budget
few_cuts d budget es t sizes =
    omega (arith, sizes.units, sizes.spent, sizes.floors)

module _ (d : Decomposition) (budget : ℕ) (root : Region) where
  all_kept : (events : List Event) (es : List Entry) (t : State) → IsReplay d budget root es t → FollowInTurn d budget t events → work_left d budget (after d t events) ≤ work_left d budget t
  all_kept [] es t r h = omega arith
  all_kept (e ∷ events) es t r h =
      let first : work_left d budget (effect d t e) ≤ work_left d budget t =
      kept_after d budget t h.0 (lives_are_right d budget root es t r) (few_cuts d budget es t (sizes_are_right d budget root es t r)) e h.1 in
      let next : IsReplay d budget root (es ++ stamped 0 (count_of 0 es) (e ∷ [])) (effect d t e) = histories_go_on.legal d budget root es t 0 (e ∷ []) r (h.0, h.1, tt) in
      let rest : work_left d budget (after d (effect d t e) events) ≤ work_left d budget (effect d t e) = all_kept events (es ++ stamped 0 (count_of 0 es) (e ∷ [])) (effect d t e) next h.2 in
      omega (arith, first, rest)

  -- there is a first event, and it lowers the work
  abbrev StartsFalling : State → List Event → Type 0
  StartsFalling t [] = ⊥
  StartsFalling t (e ∷ events) = IsFalling t e

  starts_with : (t : State) (events more : List Event) → StartsFalling t events → StartsFalling t (events ++ more)
  starts_with t [] more h = absurd h
  starts_with t (e ∷ events) more h = h

  first_lowers : (events : List Event) (es : List Entry) (t : State) → IsReplay d budget root es t → FollowInTurn d budget t events → StartsFalling t events → work_left d budget (after d t events) < work_left d budget t
  first_lowers [] es t r h falls = absurd falls
  first_lowers (e ∷ events) es t r h falls =
      let first : work_left d budget (effect d t e) < work_left d budget t =
      falls_after d budget t h.0 (lives_are_right d budget root es t r) (few_cuts d budget es t (sizes_are_right d budget root es t r)) e h.1 falls in
      let next : IsReplay d budget root (es ++ stamped 0 (count_of 0 es) (e ∷ [])) (effect d t e) = histories_go_on.legal d budget root es t 0 (e ∷ []) r (h.0, h.1, tt) in
      let rest : work_left d budget (after d (effect d t e) events) ≤ work_left d budget (effect d t e) = all_kept events (es ++ stamped 0 (count_of 0 es) (e ∷ [])) (effect d t e) next h.2 in
      omega (arith, first, rest)

  -- so do an answer's events with the stop for the budget
  answer_lowers : (events : List Event) (es : List Entry) (t : State) → IsReplay d budget root es t → FollowInTurn d budget t (and_stop d budget t events) → StartsFalling t events
      → work_left d budget (after d t (and_stop d budget t events)) < work_left d budget t
  answer_lowers events es t r h falls = first_lowers (and_stop d budget t events) es t r h (starts_with t events _ falls)

  -- ---- answers
  floor_starts : (t : State) (block : ℕ) (a : FloorAnswer) → StartsFalling t (floor_events block a)
  floor_starts t block (floor_answer.Floor basis cut) = tt
  floor_starts t block (floor_answer.Ray direction) = tt

  unless_starts : (t : State) (number front : ℕ) (o : Option Leaf) (events : List Event) → StartsFalling t events → StartsFalling t (unless_reaching number front o events)
  unless_starts t number front None events h = h
  unless_starts t number front (Some leaf) events h = tt

  node_starts : (t : State) (number front : ℕ) (a : NodeAnswer) → StartsFalling t (node_events d t number front a)
  node_starts t number front (node_answer.Empty leaf) = tt
  node_starts t number front (node_answer.Split basis position value leaf) = unless_starts t number front (reaching d t leaf) _ tt
  node_starts t number front (node_answer.Point point leaf) = unless_starts t number front (reaching d t leaf) _ tt

  -- a known cut is one of a live post
  separation_starts : (t : State) (number block : ℕ) (known : Option ℕ) (a : SepAnswer) (post : Post) → slice_get t.posts number ≡ Some post → ((p : Post) → IsAt t.posts number p → is_live p ≡ true)
      → StartsFalling t (separation_events d t number block known a)
  separation_starts t number block None (sep_answer.Cut basis cut) post is live = tt
  separation_starts t number block (Some place) (sep_answer.Cut basis cut) post is live = live
  separation_starts t number block known (sep_answer.Fill y) post is live = subst (λ (o : Option Post). StartsFalling t (fill_events d t number block y o)) (sym is) tt

  floor_lowers : (es : List Entry) (t : State) (s : Solved FloorAnswer) → IsUnderWay d budget root es t → SolvesSomeFloor d.model d.part s → AllHold (floor_answer_rules d t s)
      → work_left d budget (after d t (floor_entries d budget t s)) < work_left d budget t
  floor_lowers es t s search k rules =
      answer_lowers (floor_task_events s.answer s.task) es t search.replayed (floors_follow d budget root es t s search k rules)
      (subst (λ (n : TaskName). StartsFalling t (floor_task_events s.answer n)) (sym k.solves.task) (floor_starts t k.block s.answer))

  node_lowers : (es : List Entry) (t : State) (s : Solved NodeAnswer) → IsUnderWay d budget root es t → SolvesSomeNode d.model d.part s → AllHold (node_answer_rules d t s)
      → work_left d budget (after d t (node_entries d budget t s)) < work_left d budget t
  node_lowers es t s search k rules =
      answer_lowers (node_task_events d t s.answer s.task) es t search.replayed (nodes_follow d budget root es t s search k rules)
      (subst (λ (n : TaskName). StartsFalling t (node_task_events d t s.answer n)) (sym k.solves.task) (node_starts t k.number k.front s.answer))

  separation_lowers : (es : List Entry) (t : State) (known : Option ℕ) (s : Solved SepAnswer) → IsUnderWay d budget root es t → SolvesSomeSeparation d.model d.part s → AllHold (separation_answer_rules d t s)
      → IsKnownAnswer t.cuts known s.answer → IsLiveTask t s.task → work_left d budget (after d t (separation_entries d budget t known s)) < work_left d budget t
  separation_lowers es t known s search k rules is_known live =
      answer_lowers (separation_task_events d t known s.answer s.task) es t search.replayed (separations_follow d budget root es t known s search k rules is_known)
      (subst (λ (n : TaskName). StartsFalling t (separation_task_events d t known s.answer n)) (sym k.solves.task)
      (separation_starts t k.post k.block known s.answer own.0 own.1 (subst (λ (n : TaskName). IsLiveTask t n) k.solves.task live)))
    where
      here : AllHold (separation_task_rules d t s.point s.lp s.answer (name.Sep k.post k.block))
      here = subst (λ (n : TaskName). AllHold (separation_task_rules d t s.point s.lp s.answer n)) k.solves.task rules

      own : (post : Post) × (slice_get t.posts k.post ≡ Some post) × AllHold (separation_rules d t k.block s.point s.lp s.answer post)
      own = there (slice_get t.posts k.post) (separation_rules d t k.block s.point s.lp s.answer) here.1

  stop_lowers : (es : List Entry) (t : State) (s : Solved WideAt) → IsUnderWay d budget root es t → StopsSomeTask d.model d.part s → AllHold (stop_answer_rules d t s)
      → work_left d budget (after d t (stop_entries d budget t s)) < work_left d budget t
  stop_lowers es t s search k rules = answer_lowers (event.Stop (why.Wide s) ∷ []) es t search.replayed (stops_follow d budget root es t s search k rules) tt

pub answers_lower : AnswersLower
answers_lower = record {
  floors = λ d budget root es t s search k rules. floor_lowers d budget root es t s search k rules;
  nodes = λ d budget root es t s search k rules. node_lowers d budget root es t s search k rules;
  separations = λ d budget root es t known s search k rules is_known live. separation_lowers d budget root es t known s search k rules is_known live;
  stops = λ d budget root es t s search k rules. stop_lowers d budget root es t s search k rules;
}
