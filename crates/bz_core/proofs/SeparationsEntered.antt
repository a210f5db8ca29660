-- What an accepted answer of a separation adds to a search, and that there is room for it.
use Rattle.std.proofs.Common.{◌≡◌, refl, sym, ◌∙◌, ap, subst, ℕ, suc, ◌+◌, ◌-◌, ◌<◌, ◌≤◌, ◌^◌, List, [], ◌∷◌, ◌++◌, length, true, false, arith}
use Rattle.std.proofs.lemmas.Option.{slice_get_within}
use Rattle.std.specs.Prelude.{Option, Some, None, Bool, ◌==◌, cond}
use Rattle.std.specs.List.{slice_get}
use Rattle.bz_first.specs.Tests.{AllHold}
use Rattle.bz_model.specs.declared.BlockPart.{BlockPart}
use Rattle.bz_model.specs.Parting.{blocks_of}
use Rattle.bz_model.specs.Splits.{Decomposition}
use Rattle.bz_cut.specs.declared.Cut.{Cut}
use Rattle.bz_event.specs.declared.answers.SepAnswer.{SepAnswer}
use Rattle.bz_event.specs.declared.answers.SepAnswer.TheVariants as answer
use Rattle.bz_event.specs.declared.answers.Solved.{Solved}
use Rattle.bz_event.specs.declared.events.Entry.{Entry}
use Rattle.bz_event.specs.declared.events.Event.{Event}
use Rattle.bz_event.specs.declared.events.Event.TheVariants as event
use Rattle.bz_event.specs.declared.tasks.TaskName.{TaskName}
use Rattle.bz_event.specs.declared.tasks.TaskName.TheVariants as name
use Rattle.bz_event.specs.Separations.{SolvesSomeSeparation}
use Rattle.bz_history.specs.declared.state.Post.{Post}
use Rattle.bz_history.specs.declared.state.Region.{Region}
use Rattle.bz_history.specs.Histories.{count_of}
use Rattle.bz_history.specs.Sizes.{AreSizes, closed_in}
use Rattle.bz_history.specs.States.{State}
use Rattle.bz_history.specs.Steps.{IsAt}
use Rattle.bz_history.proofs.SizeSteps.{sizes_are_right}
use Rattle.bz_rules.specs.Entries.{IsKnown, IsKnownAnswer, after, and_stop, cut_events, fill_events, is_spent, separation_entries, separation_events, separation_task_events}
use Rattle.bz_rules.specs.Following.{stamped}
use Rattle.bz_rules.specs.Rules.{separation_answer_rules}
use Rattle.bz_state.specs.Views.{HasPlace, Progress, number_limit}
use Rattle.bz_core.specs.declared.entering.Planned.{Planned}
use Rattle.bz_core.specs.Handing.{unmarked}
use Rattle.bz_core.specs.Searches.{IsSearch, Marks}
use Rattle.bz_core.specs.Separations.{AddsCut, EntersFirst, answer_events, planned_events, stop_events}
use Rattle.bz_core.proofs.SeparationsAnswered.{IsAnswered}
use Rattle.bz_core.proofs.SeparationsGiven.{IsSeparationGiven, separation_given}

-- ---- numbers
one_at_most : (b : Bool) → cond {A = ℕ} b 1 0 ≤ 1
one_at_most true = omega arith
one_at_most false = omega arith

-- a worker has no more entries than there are
pub count_at_most : (worker : ℕ) (es : List Entry) → count_of worker es ≤ length es
count_at_most worker [] = omega arith
count_at_most worker (e ∷ es) =
    let rest : count_of worker es ≤ length es = count_at_most worker es in
    let here : cond {A = ℕ} (e.stamp.worker == worker) 1 0 ≤ 1 = one_at_most (e.stamp.worker == worker) in
    omega (arith, rest, here)

-- entries, units and cuts can be counted on
pub record HasNumbers (t : State) : Type 0 where
  pub entries : t.entries + 4 < 2 ^ 64
  pub units : t.units + 1 < number_limit
  pub cuts : length t.cuts < number_limit

pub has_numbers : (d : Decomposition) (budget : ℕ) (root : Region) (es : List Entry) (t : State) (marks : Marks) → IsSearch d budget root es t marks
    → length es + 4 < 2 ^ 64 → HasNumbers t
has_numbers d budget root es t marks is few =
    let s : AreSizes d budget es t = sizes_are_right d budget root es t is.replayed in
    let entries : t.entries ≡ length es = s.entries in
    let sum : length t.floors + t.units ≡ length t.cuts + closed_in t.nodes = s.units in
    let spent : t.units ≤ budget = s.spent in
    let most : budget ≤ 4000 = is.at_most in
    let floors : length t.floors ≤ blocks_of d.part = s.floors in
    let blocks : blocks_of d.part ≤ 256 = is.decomposed.partition.few in
    record { entries = omega (arith, entries, few); units = omega (arith, spent, most); cuts = omega (arith, sum, spent, most, floors, blocks) }

-- ---- room for the first event
has_place : (t : State) → HasNumbers t → HasPlace t
has_place t n =
    let few : t.entries + 4 < 2 ^ 64 = n.entries in
    omega (arith, few)

enters_cut : (p : Progress) (number : ℕ) (basis : List ℕ) (cut : Cut) (known : Option ℕ) (plan : Planned)
    → planned_events number plan ≡ cut_events number basis cut known → IsKnown p.state.cuts cut known
    → 1 ≤ p.room.cuts → HasNumbers p.state → EntersFirst p plan.first
enters_cut p number basis cut None plan is known room n =
    let first : plan.first ≡ event.Append number basis cut = cc in
    let few : p.state.units + 1 < number_limit = n.units in
    let adds : AddsCut p cut = record { cuts = room; place = has_place p.state n; units = omega (arith, few); new = known } in
    subst (EntersFirst p) (sym first) adds
enters_cut p number basis cut (Some place) plan is known room n =
    let first : plan.first ≡ event.Again number basis place = cc in
    let within : place < length p.state.cuts = slice_get_within p.state.cuts place known.known known.is_known in
    let few : length p.state.cuts < number_limit = n.cuts in
    let narrow : place < number_limit = omega (arith, within, few) in
    subst (EntersFirst p) (sym first) (has_place p.state n, narrow)

enters_fill : (d : Decomposition) (p : Progress) (number block : ℕ) (y : BlockPart) (post : Post) (plan : Planned)
    → planned_events number plan ≡ fill_events d p.state number block y (Some post) → 0 < block → HasNumbers p.state → EntersFirst p plan.first
enters_fill d p number block y post plan is above n =
    let first : plan.first ≡ event.Fill number block y = cc in
    subst (EntersFirst p) (sym first) (has_place p.state n, above)

enters_there : (d : Decomposition) (p : Progress) (number block : ℕ) (known : Option ℕ) (a : SepAnswer) (plan : Planned)
    → planned_events number plan ≡ separation_events d p.state number block known a → IsKnownAnswer p.state.cuts known a
    → IsAnswered d p.state number block → 1 ≤ p.room.cuts → HasNumbers p.state → EntersFirst p plan.first
enters_there d p number block known (answer.Cut basis cut) plan is is_known at room n = enters_cut p number basis cut known plan is is_known room n
enters_there d p number block known (answer.Fill y) plan is is_known at room n =
    let filled : planned_events number plan ≡ fill_events d p.state number block y (Some at.post) =
    subst (λ (o : Option Post). planned_events number plan ≡ fill_events d p.state number block y o) at.is_post is in
    enters_fill d p number block y at.post plan filled at.is_block.first n

pub enters_first : (d : Decomposition) (p : Progress) (t : State) (number block : ℕ) (known : Option ℕ) (a : SepAnswer) (plan : Planned) → p.state ≡ t
    → planned_events number plan ≡ separation_events d t number block known a → IsKnownAnswer t.cuts known a
    → IsAnswered d t number block → 1 ≤ p.room.cuts → HasNumbers t → EntersFirst p plan.first
enters_first d p t number block known a plan state is is_known at room n =
    enters_there d p number block known a plan
    (subst (λ (u : State). planned_events number plan ≡ separation_events d u number block known a) (sym state) is)
    (subst (λ (u : State). IsKnownAnswer u.cuts known a) (sym state) is_known)
    (subst (λ (u : State). IsAnswered d u number block) (sym state) at)
    room
    (subst HasNumbers (sym state) n)

-- ---- what is entered and appended
module _ (d : Decomposition) (budget : ℕ) (t : State) (s : Solved SepAnswer) (number block : ℕ) (known : Option ℕ) (task : s.task ≡ name.Sep number block) where
  by_task : separation_entries d budget t known s ≡ and_stop d budget t (separation_events d t number block known s.answer)
  by_task = ap (λ (n : TaskName). and_stop d budget t (separation_task_events d t known s.answer n)) task

  pub entries_are : (entered appended : Planned) (spent : Bool) → planned_events number entered ≡ separation_events d t number block known s.answer
      → planned_events number appended ≡ separation_events d t number block known s.answer
      → spent ≡ is_spent budget (after d t (planned_events number entered))
      → answer_events appended.first number appended.completion spent ≡ separation_entries d budget t known s
  entries_are entered appended spent first second is =
      let spent_is : spent ≡ is_spent budget (after d t (separation_events d t number block known s.answer)) = is ∙ ap (λ (es : List Event). is_spent budget (after d t es)) first in
      ap (λ (b : Bool). planned_events number appended ++ stop_events b) spent_is
      ∙ ap (λ (es : List Event). es ++ stop_events (is_spent budget (after d t (separation_events d t number block known s.answer)))) second
      ∙ sym by_task

  pub state_is : (entered : Planned) (u : State) → planned_events number entered ≡ separation_events d t number block known s.answer
      → u ≡ after d t (and_stop d budget t (planned_events number entered)) → u ≡ after d t (separation_entries d budget t known s)
  state_is entered u first is =
      is ∙ ap (λ (es : List Event). after d t (and_stop d budget t es)) first ∙ ap (after d t) (sym by_task)

-- ---- the search after them
pub search_entered : (d : Decomposition) (budget : ℕ) (root : Region) (es : List Entry) (t : State) (marks : Marks)
    (s : Solved SepAnswer) (number block worker : ℕ) (known : Option ℕ) → IsSearch d budget root es t marks → SolvesSomeSeparation d.model d.part s
    → s.task ≡ name.Sep number block → AllHold (separation_answer_rules d t s) → IsKnownAnswer t.cuts known s.answer
    → (all : List Entry) (u : State) (left : Marks) → all ≡ es ++ stamped worker (count_of worker es) (separation_entries d budget t known s)
    → u ≡ after d t (separation_entries d budget t known s) → left ≡ unmarked s.task marks → IsSearch d budget root all u left
search_entered d budget root es t marks s number block worker known is promise task rules is_known all u left longer entered unmarked_is =
    let given : IsSeparationGiven d budget root es t marks (separation_entries d budget t known s) number block worker =
    separation_given d budget root es t marks s number block worker known is promise task rules is_known in
    let off : left ≡ unmarked (name.Sep number block) marks = unmarked_is ∙ ap (λ (n : TaskName). unmarked n marks) task in
    subst (λ (h : List Entry). IsSearch d budget root h u left) (sym longer)
    (subst (λ (v : State). IsSearch d budget root (es ++ stamped worker (count_of worker es) (separation_entries d budget t known s)) v left) (sym entered)
    (subst (λ (m : Marks). IsSearch d budget root (es ++ stamped worker (count_of worker es) (separation_entries d budget t known s)) (after d t (separation_entries d budget t known s)) m) (sym off)
    given))
