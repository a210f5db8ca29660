-- What an accepted answer of a floor makes of a search.
use Rattle.std.proofs.Common.{◌≡◌, ◌<◌, ℕ, suc, false, List, [], ◌∷◌, ◌++◌, length, refl, sym, ◌∙◌, ap, subst, arith, ne_eqb, ◌≤◌}
use Rattle.std.proofs.lemmas.Option.{slice_get_within}
use Rattle.bz_first.specs.Tests.{AllHold}
use Rattle.bz_cut.specs.declared.Cut.{Cut}
use Rattle.bz_cut.specs.Points.{AreSame}
use Rattle.bz_model.specs.Splits.{Decomposition}
use Rattle.bz_event.specs.declared.answers.FloorAnswer.{FloorAnswer}
use Rattle.bz_event.specs.declared.answers.FloorAnswer.TheVariants as answer
use Rattle.bz_event.specs.declared.answers.Solved.{Solved}
use Rattle.bz_event.specs.declared.events.Entry.{Entry}
use Rattle.bz_event.specs.declared.events.Event.{Event}
use Rattle.bz_event.specs.declared.events.Event.TheVariants as event
use Rattle.bz_event.specs.declared.tasks.TaskName.{TaskName}
use Rattle.bz_event.specs.declared.tasks.TaskName.TheVariants as name
use Rattle.bz_event.specs.Floors.{SolvesSomeFloor}
use Rattle.bz_history.specs.declared.state.Post.{Post}
use Rattle.bz_history.specs.declared.state.Region.{Region}
use Rattle.bz_history.specs.Histories.{IsReplay, count_of}
use Rattle.bz_history.specs.States.{State, effect, is_done}
use Rattle.bz_history.specs.Steps.{IsAt}
use Rattle.bz_history.proofs.Lists.{at_end, at_kept}
use Rattle.bz_history.proofs.PoolSteps.{pools_are_right}
use Rattle.bz_pool.specs.Pools.{AreApart, IsNew}
use Rattle.bz_rules.specs.Entries.{and_stop, floor_entries, floor_events, floor_task_events, is_spent}
use Rattle.bz_rules.specs.Following.{FollowInTurn, stamped}
use Rattle.bz_rules.specs.Rules.{floor_answer_rules, floor_rules}
use Rattle.bz_rules.proofs.FloorsFollow.{floors_follow}
use Rattle.bz_rules.proofs.GoingOn.{histories_go_on}
use Rattle.bz_state.specs.Views.{HasPlace, Progress}
use Rattle.bz_core.specs.Floors.{AddsFloor, EntersFloor}
use Rattle.bz_core.specs.Searches.{IsSearch, Marks}

-- ---- a cut that is apart from the others is new
apart_from : (cuts : List Cut) (cut : Cut) (n : ℕ) (all : List Cut) → AreApart all → IsAt all n cut
    → ((i : ℕ) (known : Cut) → IsAt cuts i known → (k : ℕ) × IsAt all k known × (k < n)) → IsNew cuts cut
apart_from [] cut n all apart at there = tt
apart_from (known ∷ cuts) cut n all apart at there =
    (head (there 0 known refl), apart_from cuts cut n all apart at (λ i x is. there (suc i) x is))
  where
    head : ((k : ℕ) × IsAt all k known × (k < n)) → AreSame known cut → ⊥
    head (k, is, less) same =
        let at_one_place : k ≡ n = apart k n known cut is at same in
        omega arith

pub new_of_apart : (cuts : List Cut) (cut : Cut) → AreApart (cuts ++ cut ∷ []) → IsNew cuts cut
new_of_apart cuts cut apart =
    apart_from cuts cut (length cuts) (cuts ++ cut ∷ []) apart (at_end cuts cut)
    (λ i known is. (i, at_kept cuts (cut ∷ []) i known is, slice_get_within cuts i known is))

-- ---- a floor's event
-- it changes neither nodes nor posts, and spends no unit
record IsAside (t u : State) : Type 0 where
  nodes : u.nodes ≡ t.nodes
  posts : u.posts ≡ t.posts
  units : u.units ≡ t.units

event_aside : (d : Decomposition) (t : State) (block : ℕ) (a : FloorAnswer) (e : Event) → e ∷ [] ≡ floor_events block a → IsAside t (effect d t e)
event_aside d t block (answer.Floor basis cut) e is =
    let same : e ≡ event.Floor block basis cut = cc in
    subst (λ (x : Event). IsAside t (effect d t x)) (sym same) (record { nodes = refl; posts = refl; units = refl })
event_aside d t block (answer.Ray r) e is =
    let same : e ≡ event.Ray block r = cc in
    subst (λ (x : Event). IsAside t (effect d t x)) (sym same) (record { nodes = refl; posts = refl; units = refl })

-- so no stop follows it
unspent : (budget : ℕ) (u : State) → u.units < budget → is_spent budget u ≡ false
unspent budget u less = rw (ne_eqb u.units budget (λ same. absurd (omega arith))) refl

no_stop : (d : Decomposition) (budget : ℕ) (t : State) (e : Event) → (effect d t e).units < budget → and_stop d budget t (e ∷ []) ≡ e ∷ []
no_stop d budget t e less = rw (unspent budget (effect d t e) less) refl

-- ---- what is made of a search
pub record IsFloorGiven (d : Decomposition) (budget : ℕ) (root : Region) (es : List Entry) (t : State) (marks : Marks)
    (s : Solved FloorAnswer) (worker : ℕ) (e : Event) : Type 0 where
  pub entries : floor_entries d budget t s ≡ e ∷ []
  pub search : IsSearch d budget root (es ++ stamped worker (count_of worker es) (e ∷ [])) (effect d t e) (record marks { floor = false })

task_events : (block : ℕ) (a : FloorAnswer) (task : TaskName) → task ≡ name.Floor block → floor_task_events a task ≡ floor_events block a
task_events block a task is = rw is refl

task_rules : (d : Decomposition) (t : State) (block : ℕ) (s : Solved FloorAnswer) → s.task ≡ name.Floor block → floor_answer_rules d t s ≡ floor_rules d t block s.lp
task_rules d t block s is = rw is refl

pub floor_given : (d : Decomposition) (budget : ℕ) (root : Region) (es : List Entry) (t : State) (marks : Marks)
    (s : Solved FloorAnswer) (block worker : ℕ) (e : Event) → IsSearch d budget root es t marks → SolvesSomeFloor d.model d.part s
    → s.task ≡ name.Floor block → AllHold (floor_rules d t block s.lp) → e ∷ [] ≡ floor_events block s.answer
    → IsFloorGiven d budget root es t marks s worker e
floor_given d budget root es t marks s block worker e is promise task rules event_is =
    let running : is_done t ≡ false = rules.0 in
    let left : t.units < budget = is.left running in
    let aside : IsAside t (effect d t e) = event_aside d t block s.answer e event_is in
    let less : (effect d t e).units < budget = subst (λ (n : ℕ). n < budget) (sym aside.units) left in
    let all : AllHold (floor_answer_rules d t s) = rw (task_rules d t block s task) rules in
    let entries : floor_entries d budget t s ≡ e ∷ [] =
    ap (and_stop d budget t) (task_events block s.answer s.task task ∙ sym event_is) ∙ no_stop d budget t e less in
    let follow : FollowInTurn d budget t (e ∷ []) =
    subst (FollowInTurn d budget t) entries
    (floors_follow d budget root es t s (record { decomposed = is.decomposed; replayed = is.replayed; units = is.left }) promise all) in
    record {
      entries = entries;
      search = record {
        decomposed = is.decomposed;
        positive = is.positive;
        at_most = is.at_most;
        replayed = histories_go_on.legal d budget root es t worker (e ∷ []) is.replayed follow;
        marks_are = record {
          nodes = is.marks_are.nodes ∙ sym (ap length aside.nodes);
          posts = is.marks_are.posts ∙ sym (ap length aside.posts);
          blocks = is.marks_are.blocks;
        };
        gaps = λ still i post at live. is.gaps running i post (subst (λ (ps : List Post). IsAt ps i post) aside.posts at) live;
        left = λ still. less;
      };
    }

-- a floor's cut is new in the pool
pub floor_is_new : (d : Decomposition) (budget : ℕ) (root : Region) (es : List Entry) (t : State) (block : ℕ) (basis : List ℕ) (cut : Cut)
    → IsReplay d budget root es (effect d t (event.Floor block basis cut)) → IsNew t.cuts cut
floor_is_new d budget root es t block basis cut r =
    new_of_apart t.cuts cut (pools_are_right d budget root es (effect d t (event.Floor block basis cut)) r).apart

-- there is room for what it adds
pub enters_floor : (d : Decomposition) (budget : ℕ) (root : Region) (es : List Entry) (t : State) (p : Progress) (block : ℕ) (a : FloorAnswer) (e : Event)
    → e ∷ [] ≡ floor_events block a → p.state ≡ t → 1 ≤ p.room.cuts → 1 ≤ p.room.floors → HasPlace t
    → IsReplay d budget root es (effect d t e) → EntersFloor p e
enters_floor d budget root es t p block (answer.Floor basis cut) e is state cuts floors place r =
    let same : e ≡ event.Floor block basis cut = cc in
    let replayed : IsReplay d budget root es (effect d t (event.Floor block basis cut)) = subst (λ (x : Event). IsReplay d budget root es (effect d t x)) same r in
    let adds : AddsFloor p cut = record {
      cuts = cuts;
      floors = floors;
      place = subst HasPlace (sym state) place;
      new = subst (λ (u : State). IsNew u.cuts cut) (sym state) (floor_is_new d budget root es t block basis cut replayed);
    } in
    subst (EntersFloor p) (sym same) adds
enters_floor d budget root es t p block (answer.Ray r) e is state cuts floors place replayed =
    let same : e ≡ event.Ray block r = cc in
    let fits : HasPlace p.state = subst HasPlace (sym state) place in
    subst (EntersFloor p) (sym same) fits
