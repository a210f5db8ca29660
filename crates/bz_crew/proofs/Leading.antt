-- What a give that is done makes of a search that one worker works on.
use Rattle.std.proofs.Common.{◌≡◌, refl, sym, subst, ◌<◌, ℕ, suc, false, List, [], ◌∷◌, ◌++◌, length}
use Rattle.bz_first.specs.Tests.{AllHold}
use Rattle.bz_model.specs.Splits.{Decomposition}
use Rattle.bz_tableau.specs.declared.answers.WideAt.{WideAt}
use Rattle.bz_event.specs.declared.answers.FloorAnswer.{FloorAnswer}
use Rattle.bz_event.specs.declared.answers.NodeAnswer.{NodeAnswer}
use Rattle.bz_event.specs.declared.answers.SepAnswer.{SepAnswer}
use Rattle.bz_event.specs.declared.answers.Solved.{Solved}
use Rattle.bz_event.specs.declared.events.Entry.{Entry}
use Rattle.bz_event.specs.declared.events.Event.{Event}
use Rattle.bz_event.specs.declared.events.Stamp.{Stamp}
use Rattle.bz_event.specs.declared.tasks.TaskName.{TaskName}
use Rattle.bz_event.specs.declared.tasks.TaskName.TheVariants as name
use Rattle.bz_event.specs.Floors.{SolvesSomeFloor}
use Rattle.bz_event.specs.Nodes.{SolvesSomeNode}
use Rattle.bz_event.specs.Separations.{SolvesSomeSeparation}
use Rattle.bz_history.specs.Histories.{count_of}
use Rattle.bz_history.specs.States.{State, effect, opening, replay}
use Rattle.bz_rules.specs.Entries.{after, floor_entries, node_entries, separation_entries, stop_entries}
use Rattle.bz_rules.specs.Following.{IsUnderWay, stamped}
use Rattle.bz_rules.specs.Rules.{Rules, floor_answer_rules, node_answer_rules, separation_answer_rules, stop_answer_rules}
use Rattle.bz_ending.specs.Laws.{IsLiveTask}
use Rattle.bz_ending.specs.Work.{work_left}
use Rattle.bz_ending.proofs.Lowering.{answers_lower}
use Rattle.bz_core.specs.declared.answering.Taken.{Taken}
use Rattle.bz_core.specs.declared.answering.Taken.TheVariants as taken
use Rattle.bz_core.specs.Giving.{Gives, GivesSeparation, with_entries}
use Rattle.bz_core.specs.Handing.{unmarked}
use Rattle.bz_core.specs.Marking.{node_marks, with_room}
use Rattle.bz_core.specs.Searches.{IsSearch, Marks, Seen, now}
use Rattle.bz_crew.specs.Alone.{AreOfWorkerZero, IsAloneWith, NothingIsHanded}
use Rattle.bz_crew.specs.Turns.{LeadsOn, MayGiveWide}
use Rattle.bz_crew.proofs.MarksOff.{off_with_room}

-- ---- more entries of worker 0
replay_behind : (d : Decomposition) (t : State) (count : ℕ) (events : List Event) → replay d t (stamped 0 count events) ≡ after d t events
replay_behind d t count [] = refl
replay_behind d t count (e ∷ es) = replay_behind d (effect d t e) (suc count) es

replay_longer : (d : Decomposition) (t : State) (es : List Entry) (count : ℕ) (events : List Event) → replay d t (es ++ stamped 0 count events) ≡ after d (replay d t es) events
replay_longer d t [] count events = replay_behind d t count events
replay_longer d t (e ∷ es) count events = replay_longer d (effect d t e.event) es count events

own_stamped : (count : ℕ) (events : List Event) → AreOfWorkerZero (stamped 0 count events)
own_stamped count [] = tt
own_stamped count (e ∷ es) = (refl, own_stamped (suc count) es)

own_longer : (es more : List Entry) → AreOfWorkerZero es → AreOfWorkerZero more → AreOfWorkerZero (es ++ more)
own_longer [] more h g = g
own_longer (e ∷ es) more h g = (h.0, own_longer es more h.1 g)

-- ---- the search with them
pub leads_on : (old new : Seen) (count : ℕ) (events : List Event) (marks : Marks) → new ≡ with_entries old (record { worker = 0; count = count }) events marks
    → NothingIsHanded marks → old.quit ≡ false → AreOfWorkerZero old.history
    → work_left old.split old.budget (after old.split (now old) events) < work_left old.split old.budget (now old) → LeadsOn old new
leads_on old new count events marks is off wanted own less = subst (LeadsOn old) (sym is) (record {
  split = refl;
  budget = refl;
  root = refl;
  alone = record { off = off; wanted = wanted; own = own_longer old.history (stamped 0 count events) own (own_stamped count events) };
  less = subst (λ (t : State). work_left old.split old.budget t < work_left old.split old.budget (now old)) (sym (replay_longer old.split (opening old.root) old.history count events)) less;
})

-- ---- what a search keeps
pub under_way : (v : Seen) → IsSearch v.split v.budget v.root v.history (now v) v.marks → IsUnderWay v.split v.budget v.root v.history (now v)
under_way v is = record { decomposed = is.decomposed; replayed = is.replayed; units = is.left }

-- ---- gives that are done
-- the next stamp of worker 0
abbrev own_stamp : Seen → Stamp
own_stamp v = record { worker = 0; count = count_of 0 v.history }

done_leads : (old new : Seen) (stamp : Stamp) (rules : Rules) (events : List Event) (marks : Marks) (took : Taken) (entries : ℕ) → took ≡ taken.Done entries
    → stamp ≡ own_stamp old → Gives old new stamp rules events marks took → NothingIsHanded marks → old.quit ≡ false → AreOfWorkerZero old.history
    → work_left old.split old.budget (after old.split (now old) events) < work_left old.split old.budget (now old) → LeadsOn old new
done_leads old new stamp rules events marks took entries is stamped_so given off wanted own less =
    let done : AllHold rules × (new ≡ with_entries old stamp events marks) × (entries ≡ length events) =
    subst (λ (x : Taken). Gives old new stamp rules events marks x) is given in
    let longer : new ≡ with_entries old (own_stamp old) events marks = subst (λ (x : Stamp). new ≡ with_entries old x events marks) stamped_so done.1 in
    leads_on old new (count_of 0 old.history) events marks longer off wanted own less

pub floor_leads : (old new : Seen) (stamp : Stamp) (s : Solved FloorAnswer) (took : Taken) (entries : ℕ) → took ≡ taken.Done entries → stamp ≡ own_stamp old
    → IsSearch old.split old.budget old.root old.history (now old) old.marks → SolvesSomeFloor old.split.model old.split.part s
    → AllHold (floor_answer_rules old.split (now old) s) → IsAloneWith s.task old
    → Gives old new stamp (floor_answer_rules old.split (now old) s) (floor_entries old.split old.budget (now old) s) (record old.marks { floor = false }) took → LeadsOn old new
floor_leads old new stamp s took entries is stamped_so kept promise rules alone given =
    let off : NothingIsHanded (record old.marks { floor = false }) = subst (λ (n : TaskName). NothingIsHanded (unmarked n old.marks)) promise.solves.task alone.off in
    done_leads old new stamp (floor_answer_rules old.split (now old) s) (floor_entries old.split old.budget (now old) s) (record old.marks { floor = false }) took entries
    is stamped_so given off alone.wanted alone.own
    (answers_lower.floors old.split old.budget old.root old.history (now old) s (under_way old kept) promise rules)

pub node_leads : (old new : Seen) (stamp : Stamp) (s : Solved NodeAnswer) (took : Taken) (entries : ℕ) → took ≡ taken.Done entries → stamp ≡ own_stamp old
    → IsSearch old.split old.budget old.root old.history (now old) old.marks → SolvesSomeNode old.split.model old.split.part s
    → AllHold (node_answer_rules old.split (now old) s) → IsAloneWith s.task old
    → Gives old new stamp (node_answer_rules old.split (now old) s) (node_entries old.split old.budget (now old) s) (node_marks old.split old.budget (now old) s old.marks) took → LeadsOn old new
node_leads old new stamp s took entries is stamped_so kept promise rules alone given =
    let before : NothingIsHanded (unmarked (name.Node promise.number promise.front) old.marks) =
    subst (λ (n : TaskName). NothingIsHanded (unmarked n old.marks)) promise.solves.task alone.off in
    let later : State = after old.split (now old) (node_entries old.split old.budget (now old) s) in
    let off : NothingIsHanded (node_marks old.split old.budget (now old) s old.marks) =
    subst (λ (n : TaskName). NothingIsHanded (unmarked n (with_room old.split (now old) later old.marks))) (sym promise.solves.task)
    (off_with_room old.split (now old) later old.marks promise.number promise.front before) in
    done_leads old new stamp (node_answer_rules old.split (now old) s) (node_entries old.split old.budget (now old) s) (node_marks old.split old.budget (now old) s old.marks) took entries
    is stamped_so given off alone.wanted alone.own
    (answers_lower.nodes old.split old.budget old.root old.history (now old) s (under_way old kept) promise rules)

pub separation_leads : (old new : Seen) (stamp : Stamp) (s : Solved SepAnswer) (took : Taken) (entries : ℕ) → took ≡ taken.Done entries → stamp ≡ own_stamp old
    → IsSearch old.split old.budget old.root old.history (now old) old.marks → SolvesSomeSeparation old.split.model old.split.part s
    → AllHold (separation_answer_rules old.split (now old) s) → IsLiveTask (now old) s.task → IsAloneWith s.task old → GivesSeparation old new stamp s took → LeadsOn old new
separation_leads old new stamp s took entries is stamped_so kept promise rules live alone given =
    done_leads old new stamp (separation_answer_rules old.split (now old) s) (separation_entries old.split old.budget (now old) given.known s) (unmarked s.task old.marks) took entries
    is stamped_so given.gives alone.off alone.wanted alone.own
    (answers_lower.separations old.split old.budget old.root old.history (now old) given.known s (under_way old kept) promise rules given.is_known live)

pub stop_leads : (old new : Seen) (stamp : Stamp) (s : Solved WideAt) (took : Taken) (entries : ℕ) → took ≡ taken.Done entries → stamp ≡ own_stamp old
    → IsSearch old.split old.budget old.root old.history (now old) old.marks → MayGiveWide old s
    → Gives old new stamp (stop_answer_rules old.split (now old) s) (stop_entries old.split old.budget (now old) s) (unmarked s.task old.marks) took → LeadsOn old new
stop_leads old new stamp s took entries is stamped_so kept may given =
    done_leads old new stamp (stop_answer_rules old.split (now old) s) (stop_entries old.split old.budget (now old) s) (unmarked s.task old.marks) took entries
    is stamped_so given may.alone.off may.alone.wanted may.alone.own
    (answers_lower.stops old.split old.budget old.root old.history (now old) s (under_way old kept) may.promise may.rules)
