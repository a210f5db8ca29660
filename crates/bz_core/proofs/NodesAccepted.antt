-- What the plan of a node's accepted answer makes of a search.
use Rattle.std.proofs.Common.{◌≡◌, refl, sym, ◌∙◌, ap, subst, ℕ, suc, ◌+◌, ◌-◌, ◌<◌, ◌≤◌, ◌^◌, List, [], ◌∷◌, ◌++◌, length, arith, append-nil}
use Rattle.std.proofs.lemmas.List.{length-append}
use Rattle.std.specs.Prelude.{Option, Some, None, Bool, false, true, cond, replicate, ◌==◌, ℤ, OnErr, Result, Ok, Err}
use Rattle.std.specs.List.{AllByRecursion, slice_get}
use Rattle.std.specs.Option.{IsSomeAnd}
use Rattle.bz_first.specs.Tests.{AllHold}
use Rattle.bz_model.specs.Parting.{blocks_of}
use Rattle.bz_model.specs.Splits.{Decomposition}
use Rattle.bz_tree.specs.declared.Leaf.{Leaf}
use Rattle.bz_event.specs.declared.answers.NodeAnswer.{NodeAnswer}
use Rattle.bz_event.specs.declared.answers.Solved.{Solved}
use Rattle.bz_event.specs.declared.events.Entry.{Entry}
use Rattle.bz_event.specs.declared.events.Event.{Event}
use Rattle.bz_event.specs.declared.events.Event.TheVariants as event
use Rattle.bz_event.specs.declared.events.How.TheVariants as how
use Rattle.bz_event.specs.declared.events.Stamp.{Stamp}
use Rattle.bz_event.specs.declared.tasks.TaskName.{TaskName}
use Rattle.bz_event.specs.declared.tasks.TaskName.TheVariants as name
use Rattle.bz_event.specs.Nodes.{SolvesSomeNode}
use Rattle.bz_history.specs.declared.state.Node.{Node}
use Rattle.bz_history.specs.declared.state.Region.{Region}
use Rattle.bz_history.specs.Histories.{count_of}
use Rattle.bz_history.specs.Budgets.{greatest_budget}
use Rattle.bz_history.specs.States.{State, changed, closed_by, effect, live_of, posted_by, posted_point, sides_opened}
use Rattle.bz_history.proofs.Lists.{length-changed}
use Rattle.bz_history.proofs.SizeSteps.{sizes_are_right}
use Rattle.bz_rules.specs.Entries.{after, and_stop, is_spent, node_entries, node_events, node_task_events}
use Rattle.bz_rules.specs.Following.{stamped}
use Rattle.bz_rules.specs.Rules.{node_answer_rules, node_rules}
use Rattle.bz_state.specs.Views.{AreSides, number_limit}
use Rattle.bz_core.specs.declared.entering.Completion.{Completion}
use Rattle.bz_core.specs.declared.planning_nodes.Added.{Added}
use Rattle.bz_core.specs.declared.planning_nodes.Added.TheVariants as added
use Rattle.bz_core.specs.declared.planning_nodes.NodePlan.{NodePlan}
use Rattle.bz_core.specs.Giving.{with_entries}
use Rattle.bz_core.specs.Handing.{unmarked}
use Rattle.bz_core.specs.Marking.{node_marks, with_added, with_room}
use Rattle.bz_core.specs.Nodes.{Adds, AddsSides, FitsPlan, IsNodePlan, plan_entries}
use Rattle.bz_core.specs.Searches.{IsSearch, Marks, Seen, now}
use Rattle.bz_core.specs.Separations.{best_events, closing_events, completion_events, planned_events, stop_events}
use Rattle.bz_core.proofs.NodesGiven.{node_given}
use Rattle.bz_core.proofs.SeparationsGiven.{AreAsMany, IsQuiet, length-ended, quiet_best, quiet_more, quiet_steps, quiet_stop}

-- ---- marks of what an event adds
-- what is there more by these numbers
room_by : (d : Decomposition) (t u : State) (marks : Marks) (nodes posts : ℕ) → length u.nodes ≡ length t.nodes + nodes → length u.posts ≡ length t.posts + posts
    → with_room d t u marks ≡ record marks { nodes = marks.nodes ++ replicate nodes false; blocks = marks.blocks ++ replicate posts (replicate (blocks_of d.part) false) }
room_by d t u marks nodes posts n p =
    let more_nodes : length u.nodes - length t.nodes ≡ nodes = omega (arith, n) in
    let more_posts : length u.posts - length t.posts ≡ posts = omega (arith, p) in
    rw (more_nodes, more_posts) refl

-- as many as before
no_room : (d : Decomposition) (t u : State) (marks : Marks) → AreAsMany t u → with_room d t u marks ≡ marks
no_room d t u marks h =
    room_by d t u marks 0 0 (same h.nodes) (same h.posts) ∙ rw (append-nil marks.nodes, append-nil marks.blocks) refl
  where
    same : {n m : ℕ} → m ≡ n → m ≡ n + 0
    same is = omega (arith, is)

-- two nodes more
room_of_sides : (d : Decomposition) (t u : State) (marks : Marks) → length u.nodes ≡ length t.nodes + 2 → length u.posts ≡ length t.posts
    → with_room d t u marks ≡ record marks { nodes = marks.nodes ++ false ∷ false ∷ [] }
room_of_sides d t u marks n p =
    let none : length u.posts ≡ length t.posts + 0 = omega (arith, p) in
    room_by d t u marks 2 0 n none ∙ rw (append-nil marks.blocks) refl

-- a post more
room_of_post : (d : Decomposition) (t u : State) (marks : Marks) → length u.nodes ≡ length t.nodes → length u.posts ≡ length t.posts + 1
    → with_room d t u marks ≡ record marks { blocks = marks.blocks ++ replicate (blocks_of d.part) false ∷ [] }
room_of_post d t u marks n p =
    let none : length u.nodes ≡ length t.nodes + 0 = omega (arith, n) in
    room_by d t u marks 0 1 none p ∙ rw (append-nil marks.nodes) refl

-- ---- what an event adds
sides_are_two : (d : Decomposition) (cuts front : ℕ) (basis : List ℕ) (position : ℕ) (value : ℤ) (left right : Region) (o : Option Node)
    → IsSomeAnd o (AreSides d position value left right) → length (sides_opened d cuts (how.Split front basis position value) o) ≡ 2
sides_are_two d cuts front basis position value left right None h = absurd h
sides_are_two d cuts front basis position value left right (Some node) h = refl

two_more : (d : Decomposition) (t : State) (number front : ℕ) (basis : List ℕ) (position : ℕ) (value : ℤ) (a : Added) → AddsSides d t number position value a
    → length (effect d t (event.Close number (how.Split front basis position value))).nodes ≡ length t.nodes + 2
two_more d t number front basis position value added.Nothing h = absurd h
two_more d t number front basis position value (added.Fills fills) h = absurd h
two_more d t number front basis position value (added.Sides left right) h =
    omega (
      arith,
      length-append (changed (closed_by (how.Split front basis position value) t.entries (length t.nodes)) t.nodes number)
          (sides_opened d (length t.cuts) (how.Split front basis position value) (slice_get t.nodes number)),
      length-changed (closed_by (how.Split front basis position value) t.entries (length t.nodes)) t.nodes number,
      sides_are_two d (length t.cuts) front basis position value left right (slice_get t.nodes number) h,
    )

-- the events after the first add nothing
room_made : (d : Decomposition) (t : State) (e : Event) (a : Added) (rest : List Event) (marks : Marks) → Adds d t e a → AllByRecursion IsQuiet rest
    → with_room d t (after d (effect d t e) rest) marks ≡ with_added (blocks_of d.part) e marks
room_made d t (event.Close number (how.Leaf front leaf)) a rest marks adds quiet =
    no_room d t (after d t (event.Close number (how.Leaf front leaf) ∷ rest)) marks (quiet_steps d t (event.Close number (how.Leaf front leaf) ∷ rest) (tt, quiet))
room_made d t (event.Close number (how.Split front basis position value)) a rest marks adds quiet =
    let u : State = effect d t (event.Close number (how.Split front basis position value)) in
    let many : AreAsMany u (after d u rest) = quiet_steps d u rest quiet in
    let posts : length u.posts ≡ length t.posts = length-ended t.entries t.posts (live_of (slice_get t.nodes number)) in
    room_of_sides d t (after d u rest) marks (many.nodes ∙ two_more d t number front basis position value a adds) (many.posts ∙ posts)
room_made d t (event.Post number front point leaf) a rest marks adds quiet =
    let u : State = effect d t (event.Post number front point leaf) in
    let many : AreAsMany u (after d u rest) = quiet_steps d u rest quiet in
    let nodes : length u.nodes ≡ length t.nodes = length-changed (posted_by (length t.posts)) t.nodes number in
    let posts : length u.posts ≡ length t.posts + 1 = length-append t.posts (posted_point d t.entries number front point leaf ∷ []) in
    room_of_post d t (after d u rest) marks (many.nodes ∙ nodes) (many.posts ∙ posts)
room_made d t (event.Floor block basis cut) a rest marks adds quiet = absurd adds
room_made d t (event.Ray block direction) a rest marks adds quiet = absurd adds
room_made d t (event.Append post basis cut) a rest marks adds quiet = absurd adds
room_made d t (event.Again post basis place) a rest marks adds quiet = absurd adds
room_made d t (event.Fill post block y) a rest marks adds quiet = absurd adds
room_made d t (event.Incumbent post) a rest marks adds quiet = absurd adds
room_made d t (event.Stop reason) a rest marks adds quiet = absurd adds

quiet_closing : (node front : ℕ) (o : Option Leaf) → AllByRecursion IsQuiet (closing_events node front o)
quiet_closing node front None = tt
quiet_closing node front (Some leaf) = (tt, tt)

quiet_rest : (number : ℕ) (c : Completion) (b : Bool) → AllByRecursion IsQuiet (completion_events number c ++ stop_events b)
quiet_rest number c b =
    quiet_more (completion_events number c) (stop_events b)
    (quiet_more (best_events number c.better) (closing_events c.node c.front c.leaf) (quiet_best c.better number) (quiet_closing c.node c.front c.leaf)) (quiet_stop b)

room_of_plan : (d : Decomposition) (budget : ℕ) (t : State) (plan : NodePlan) (marks : Marks) → FitsPlan d t plan
    → with_added (blocks_of d.part) plan.entered.first marks ≡ with_room d t (after d t (plan_entries d budget t plan)) marks
room_of_plan d budget t plan marks fits =
    sym (subst (λ (es : List Event). with_room d t (after d t (and_stop d budget t es)) marks ≡ with_added (blocks_of d.part) plan.entered.first marks) fits.same
    (room_made d t plan.entered.first plan.added _ marks fits.adds
    (quiet_rest (length t.posts) plan.entered.completion (is_spent budget (after d t (planned_events (length t.posts) plan.entered))))))

-- ---- what is made of a search
own_count : (worker : ℕ) (es : List Entry) → count_of worker es ≤ length es
own_count worker [] = omega arith
own_count worker (e ∷ es) = by (e.stamp.worker == worker) (own_count worker es)
  where
    by : (b : Bool) → count_of worker es ≤ length es → cond b 1 0 + count_of worker es ≤ suc (length es)
    by true rest = omega (arith, rest)
    by false rest = omega (arith, rest)

-- entries and units of a search can be counted further
pub record HasNumbers (es : List Entry) (t : State) (worker : ℕ) : Type 0 where
  pub count : count_of worker es + 4 < 2 ^ 64
  pub place : t.entries + 4 < 2 ^ 64
  pub units : t.units + 1 < number_limit

pub has_numbers : (d : Decomposition) (budget : ℕ) (root : Region) (es : List Entry) (t : State) (marks : Marks) (worker : ℕ) → IsSearch d budget root es t marks
    → length es + 4 < 2 ^ 64 → HasNumbers es t worker
has_numbers d budget root es t marks worker is few =
    let sizes = sizes_are_right d budget root es t is.replayed in
    let entries : t.entries ≡ length es = sizes.entries in
    let spent : t.units ≤ budget = sizes.spent in
    let most : budget ≤ greatest_budget = is.at_most in
    record {
      count = omega (arith, own_count worker es, few);
      place = omega (arith, entries, few);
      units = omega (arith, spent, most);
    }

-- what the plan of an answer makes
pub record IsNodeAccepted (d : Decomposition) (budget : ℕ) (root : Region) (es : List Entry) (t : State) (marks : Marks)
    (s : Solved NodeAnswer) (worker : ℕ) (plan : NodePlan) : Type 0 where
  pub entries : plan_entries d budget t plan ≡ node_entries d budget t s
  pub room : unmarked s.task (with_added (blocks_of d.part) plan.entered.first marks) ≡ node_marks d budget t s marks
  pub search : IsSearch d budget root (es ++ stamped worker (count_of worker es) (node_entries d budget t s)) (after d t (node_entries d budget t s))
      (node_marks d budget t s marks)

task_rules : (d : Decomposition) (t : State) (number front : ℕ) (s : Solved NodeAnswer) → s.task ≡ name.Node number front
    → node_answer_rules d t s ≡ node_rules d t number front s.lp
task_rules d t number front s is = rw is refl

task_events : (d : Decomposition) (t : State) (number front : ℕ) (a : NodeAnswer) (task : TaskName) → task ≡ name.Node number front
    → node_task_events d t a task ≡ node_events d t number front a
task_events d t number front a task is = rw is refl

pub node_accepted : (d : Decomposition) (budget : ℕ) (root : Region) (es : List Entry) (t : State) (marks : Marks)
    (s : Solved NodeAnswer) (number front worker : ℕ) (plan : NodePlan) → IsSearch d budget root es t marks → SolvesSomeNode d.model d.part s
    → s.task ≡ name.Node number front → AllHold (node_rules d t number front s.lp) → IsNodePlan d t number front s.answer plan
    → IsNodeAccepted d budget root es t marks s worker plan
node_accepted d budget root es t marks s number front worker plan is promise task rules made = record {
  entries = entries;
  room = ap (unmarked s.task) (room_of_plan d budget t plan marks made.fits ∙ ap (λ (events : List Event). with_room d t (after d t events) marks) entries);
  search = node_given d budget root es t marks s worker is promise (rw (task_rules d t number front s task) rules);
}
  where
    entries : plan_entries d budget t plan ≡ node_entries d budget t s
    entries = ap (and_stop d budget t) (made.events ∙ sym (task_events d t number front s.answer s.task task))

-- ---- what contracts see
-- what is asked, of the parts that a search keeps
pub record IsAsked (d : Decomposition) (es : List Entry) (t : State) (s : Solved NodeAnswer) (number front : ℕ) (stamp : Stamp) : Type 0 where
  pub count : stamp.count ≡ count_of stamp.worker es
  pub promise : SolvesSomeNode d.model d.part s
  pub rules : AllHold (node_rules d t number front s.lp)

pub asked : (v w : Seen) (t : State) (s : Solved NodeAnswer) (number front : ℕ) (stamp : Stamp) → w ≡ v → now w ≡ t → stamp.count ≡ count_of stamp.worker v.history
    → SolvesSomeNode v.split.model v.split.part s → AllHold (node_rules v.split (now v) number front s.lp) → IsAsked w.split w.history t s number front stamp
asked v w t s number front stamp same state count promise rules = record {
  count = subst (λ (x : Seen). stamp.count ≡ count_of stamp.worker x.history) (sym same) count;
  promise = subst (λ (x : Seen). SolvesSomeNode x.split.model x.split.part s) (sym same) promise;
  rules = subst (λ (u : State). AllHold (node_rules w.split u number front s.lp)) state
      (subst (λ (x : Seen). AllHold (node_rules x.split (now x) number front s.lp)) (sym same) rules);
}

-- a search whose parts are the same
pub same_search : (d : Decomposition) (budget : ℕ) (root : Region) (es fs : List Entry) (t u : State) (marks later : Marks) → fs ≡ es → u ≡ t → later ≡ marks
    → IsSearch d budget root es t marks → IsSearch d budget root fs u later
same_search d budget root es fs t u marks later history state same is =
    subst (λ (all : List Entry). IsSearch d budget root all u later) (sym history)
    (subst (λ (v : State). IsSearch d budget root es v later) (sym state) (subst (λ (m : Marks). IsSearch d budget root es t m) (sym same) is))

-- what room, marks and the plan make, one after the other
pub record IsEntered (d : Decomposition) (budget : ℕ) (es : List Entry) (t : State) (marks : Marks) (s : Solved NodeAnswer) (stamp : Stamp) (plan : NodePlan)
    (before later : State) (old new : List Entry) (room left : Marks) (n : ℕ) : Type 0 where
  pub same_state : before ≡ t
  pub same_items : old ≡ es
  pub room_is : room ≡ with_added (blocks_of d.part) plan.entered.first marks
  pub left_is : left ≡ unmarked s.task room
  pub state : later ≡ after d before (plan_entries d budget before plan)
  pub items : new ≡ old ++ stamped stamp.worker stamp.count (plan_entries d budget before plan)
  pub entries : n ≡ length (plan_entries d budget before plan)

-- after the plan is entered
record IsGiven (d : Decomposition) (budget : ℕ) (es : List Entry) (t : State) (marks : Marks) (s : Solved NodeAnswer) (stamp : Stamp)
    (later : State) (new : List Entry) (left : Marks) (n : ℕ) : Type 0 where
  state : later ≡ after d t (node_entries d budget t s)
  items : new ≡ es ++ stamped stamp.worker stamp.count (node_entries d budget t s)
  marks_are : left ≡ node_marks d budget t s marks
  entries : n ≡ length (node_entries d budget t s)

planned : (d : Decomposition) (budget : ℕ) (t u : State) (s : Solved NodeAnswer) (plan : NodePlan) → u ≡ t
    → plan_entries d budget t plan ≡ node_entries d budget t s
    → plan_entries d budget u plan ≡ node_entries d budget t s
planned d budget t u s plan same is = subst (λ (v : State). plan_entries d budget v plan ≡ node_entries d budget t s) (sym same) is

given_of : (d : Decomposition) (budget : ℕ) (root : Region) (es : List Entry) (t : State) (marks : Marks) (s : Solved NodeAnswer) (stamp : Stamp) (plan : NodePlan)
    (before later : State) (old new : List Entry) (room left : Marks) (n : ℕ) → IsNodeAccepted d budget root es t marks s stamp.worker plan
    → IsEntered d budget es t marks s stamp plan before later old new room left n → IsGiven d budget es t marks s stamp later new left n
given_of d budget root es t marks s stamp plan before later old new room left n accepted e =
    let events : plan_entries d budget before plan ≡ node_entries d budget t s = planned d budget t before s plan e.same_state accepted.entries in
    record {
      state = e.state ∙ (ap (λ (all : List Event). after d before all) events ∙ ap (λ (u : State). after d u (node_entries d budget t s)) e.same_state);
      items = e.items ∙ (ap (λ (all : List Event). old ++ stamped stamp.worker stamp.count all) events
          ∙ ap (λ (all : List Entry). all ++ stamped stamp.worker stamp.count (node_entries d budget t s)) e.same_items);
      marks_are = e.left_is ∙ (ap (unmarked s.task) e.room_is ∙ accepted.room);
      entries = e.entries ∙ ap length events;
    }

-- it is a search
given_search : (d : Decomposition) (budget : ℕ) (root : Region) (es : List Entry) (t : State) (marks : Marks) (s : Solved NodeAnswer) (stamp : Stamp) (plan : NodePlan)
    (later : State) (new : List Entry) (left : Marks) (n : ℕ) → IsNodeAccepted d budget root es t marks s stamp.worker plan → stamp.count ≡ count_of stamp.worker es
    → IsGiven d budget es t marks s stamp later new left n → IsSearch d budget root new later left
given_search d budget root es t marks s stamp plan later new left n accepted count g =
    same_search d budget root (es ++ stamped stamp.worker (count_of stamp.worker es) (node_entries d budget t s)) new (after d t (node_entries d budget t s)) later
    (node_marks d budget t s marks) left
    (g.items ∙ ap (λ (k : ℕ). es ++ stamped stamp.worker k (node_entries d budget t s)) count) g.state g.marks_are accepted.search

-- how many entries there are
given_entries : (v w : Seen) (t : State) (s : Solved NodeAnswer) (n : ℕ) → w ≡ v → now w ≡ t → n ≡ length (node_entries w.split w.budget t s)
    → n ≡ length (node_entries v.split v.budget (now v) s)
given_entries v w t s n same state is =
    subst (λ (x : Seen). n ≡ length (node_entries x.split x.budget (now x) s)) same
    (subst (λ (u : State). n ≡ length (node_entries w.split w.budget u s)) (sym state) is)

-- what is seen
given_seen : (v w : Seen) (t : State) (s : Solved NodeAnswer) (stamp : Stamp) (new : List Entry) (left : Marks) → w ≡ v → now w ≡ t
    → new ≡ w.history ++ stamped stamp.worker stamp.count (node_entries w.split w.budget t s) → left ≡ node_marks w.split w.budget t s w.marks
    → record w { history = new; marks = left } ≡ with_entries v stamp (node_entries v.split v.budget (now v) s) (node_marks v.split v.budget (now v) s v.marks)
given_seen v w t s stamp new left same state items marks =
    subst (λ (x : Seen). record w { history = new; marks = left } ≡ with_entries x stamp (node_entries x.split x.budget (now x) s) (node_marks x.split x.budget (now x) s x.marks)) same
    (subst (λ (u : State). record w { history = new; marks = left } ≡ with_entries w stamp (node_entries w.split w.budget u s) (node_marks w.split w.budget u s w.marks)) (sym state)
    (ap (λ (all : List Entry). record w { history = all; marks = left }) items
    ∙ ap (λ (m : Marks). record w { history = w.history ++ stamped stamp.worker stamp.count (node_entries w.split w.budget t s); marks = m }) marks))

-- all that is to be shown of an accepted answer, where contracts see v of the search w
pub record IsAnswered (v w : Seen) (s : Solved NodeAnswer) (stamp : Stamp) (later : State) (new : List Entry) (left : Marks) (n : ℕ) : Type 0 where
  pub search : IsSearch w.split w.budget w.root new later left
  pub entries : n ≡ length (node_entries v.split v.budget (now v) s)
  pub seen : record w { history = new; marks = left } ≡ with_entries v stamp (node_entries v.split v.budget (now v) s) (node_marks v.split v.budget (now v) s v.marks)

pub answered : (v w : Seen) (t : State) (s : Solved NodeAnswer) (number front : ℕ) (stamp : Stamp) (plan : NodePlan)
    (before later : State) (old new : List Entry) (room left : Marks) (n : ℕ)
    → w ≡ v → IsSearch w.split w.budget w.root w.history t w.marks → IsAsked w.split w.history t s number front stamp → s.task ≡ name.Node number front
    → IsNodePlan w.split t number front s.answer plan
    → IsEntered w.split w.budget w.history t w.marks s stamp plan before later old new room left n
    → IsAnswered v w s stamp later new left n
answered v w t s number front stamp plan before later old new room left n same is ask task made e = record {
  search = given_search w.split w.budget w.root w.history t w.marks s stamp plan later new left n accepted ask.count g;
  entries = given_entries v w t s n same is.replayed.state g.entries;
  seen = given_seen v w t s stamp new left same is.replayed.state g.items g.marks_are;
}
  where
    accepted : IsNodeAccepted w.split w.budget w.root w.history t w.marks s stamp.worker plan
    accepted = node_accepted w.split w.budget w.root w.history t w.marks s number front stamp.worker plan is ask.promise task ask.rules made

    g : IsGiven w.split w.budget w.history t w.marks s stamp later new left n
    g = given_of w.split w.budget w.root w.history t w.marks s stamp plan before later old new room left n accepted e

-- where memory is wanting: as before
pub unchanged : (v w : Seen) (new : List Entry) (left : Marks) → w ≡ v → new ≡ w.history → left ≡ w.marks → record w { history = new; marks = left } ≡ v
unchanged v w new left same items marks =
    ap (λ (all : List Entry). record w { history = all; marks = left }) items ∙ (ap (λ (m : Marks). record w { marks = m }) marks ∙ same)

-- what holds anyway holds with an error
pub in_any_error : {A E : Type 0} (r : Result A E) (P : Type 0) → P → OnErr r P
in_any_error (Ok x) P p = tt
in_any_error (Err e) P p = p
