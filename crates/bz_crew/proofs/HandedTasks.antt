-- Tasks as they are handed out, and the end.
use Rattle.std.proofs.Common.{◌≡◌, subst, sym, ℕ, Bool, true, false, List, inl, inr}
use Rattle.std.specs.Prelude.{◌⊎◌, Some}
use Rattle.std.specs.List.{AllByRecursion, slice_get}
use Rattle.bz_model.specs.Splits.{Decomposition}
use Rattle.bz_event.specs.declared.tasks.TaskName.TheVariants as name
use Rattle.bz_history.specs.declared.state.Outcome.TheVariants as outcome
use Rattle.bz_history.specs.Outcomes.{outcome_of}
use Rattle.bz_history.specs.States.{State, is_done}
use Rattle.bz_history.proofs.Lists.{all_at}
use Rattle.bz_history.proofs.OutcomeSteps.{outcomes_are_true}
use Rattle.bz_core.specs.declared.roles.Next.TheVariants as next
use Rattle.bz_core.specs.declared.roles.Role.{Role}
use Rattle.bz_core.specs.Handing.{AllIsHanded, ChoosesNode, ChoosesSeparation, IsHandedBlock, marked}
use Rattle.bz_core.specs.Laws.{HasTask}
use Rattle.bz_core.specs.Searches.{IsSearch, Marks, Seen, now}
use Rattle.bz_core.specs.Tasks.{IsSeparationTask}
use Rattle.bz_core.proofs.TasksThere.{tasks_are_there}
use Rattle.bz_crew.specs.Alone.{AllOff, IsAlone, IsAloneWith, NothingIsHanded}
use Rattle.bz_crew.specs.Turns.{IsNodeTaskOver}
use Rattle.bz_crew.proofs.MarksOff.{node_off, separation_off}

-- ---- tasks that are handed out
pub node_task : (d : Decomposition) (t : State) (marks : Marks) (worker : Role) (number front : ℕ) → ChoosesNode d t marks worker number front → IsNodeTaskOver d t number front
node_task d t marks worker number front h = record {
  task = record {
    ready = h.ready;
    node = h.free.node;
    waits = record { is_node = h.free.is_node; stands_open = h.free.stands_open; unposted = h.free.unposted };
  };
  front_is = h.front_is;
}

pub separation_task : (d : Decomposition) (t : State) (marks : Marks) (worker : Role) (number block : ℕ) → ChoosesSeparation d t marks worker number block → IsSeparationTask d t number block
separation_task d t marks worker number block h = record {
  ready = h.ready;
  post = h.free.post;
  is_post = h.free.is_post;
  live = h.free.live;
  first = h.free.free.first;
  last = h.free.free.last;
  empty = h.free.free.empty;
}

-- the search after they are marked
pub marked_node : (old new : Seen) (worker : Role) (number front : ℕ) → new ≡ record old { marks = marked (next.Node number front) old.marks }
    → ChoosesNode old.split (now old) old.marks worker number front → IsNodeTaskOver new.split (now new) number front
marked_node old new worker number front is h =
    subst (λ (v : Seen). IsNodeTaskOver v.split (now v) number front) (sym is) (node_task old.split (now old) old.marks worker number front h)

pub marked_node_alone : (old new : Seen) (number front : ℕ) → new ≡ record old { marks = marked (next.Node number front) old.marks } → IsAlone old
    → IsAloneWith (name.Node number front) new
marked_node_alone old new number front is h =
    subst (IsAloneWith (name.Node number front)) (sym is) (record { off = node_off old.marks number front h.off; wanted = h.wanted; own = h.own })

pub marked_separation : (old new : Seen) (worker : Role) (number block : ℕ) → new ≡ record old { marks = marked (next.Sep number block) old.marks }
    → ChoosesSeparation old.split (now old) old.marks worker number block → IsSeparationTask new.split (now new) number block
marked_separation old new worker number block is h =
    subst (λ (v : Seen). IsSeparationTask v.split (now v) number block) (sym is) (separation_task old.split (now old) old.marks worker number block h)

pub marked_separation_alone : (old new : Seen) (number block : ℕ) → new ≡ record old { marks = marked (next.Sep number block) old.marks } → IsAlone old
    → IsAloneWith (name.Sep number block) new
marked_separation_alone old new number block is h =
    subst (IsAloneWith (name.Sep number block)) (sym is) (record { off = separation_off old.marks number block h.off; wanted = h.wanted; own = h.own })

-- ---- never is all handed out
off_on : (marks : List Bool) (i : ℕ) → AllOff marks → slice_get marks i ≡ Some true → ⊥
off_on marks i h at =
    let off : true ≡ false = all_at (λ (m : Bool). m ≡ false) marks i true h at in
    absurd (cc)

handed_off : (marks : List (List Bool)) (number block : ℕ) → AllByRecursion AllOff marks → IsHandedBlock marks number block → ⊥
handed_off marks number block h on = off_on on.of_post _ (all_at AllOff marks number on.of_post h on.is_marks) on.handed

not_all : (d : Decomposition) (t : State) (marks : Marks) → NothingIsHanded marks → AllIsHanded d t marks → HasTask d t → ⊥
not_all d t marks off all (inl (block, task)) =
    let on : marks.floor ≡ true = all.floors block task in
    let none : marks.floor ≡ false = off.floor in
    absurd (cc)
not_all d t marks off all (inr (inl (number, task))) = off_on marks.nodes number off.nodes (all.nodes number task)
not_all d t marks off all (inr (inr (number, block, task))) = handed_off marks.blocks number block off.blocks (all.separations number block task)

pub never_idle : (v : Seen) → IsSearch v.split v.budget v.root v.history (now v) v.marks → NothingIsHanded v.marks → is_done (now v) ≡ false
    → AllIsHanded v.split (now v) v.marks → ⊥
never_idle v is off running all = not_all v.split (now v) v.marks off all (tasks_are_there v.split v.budget v.root v.history (now v) v.marks is running)

-- ---- the end
-- nobody called the search off, so it is done
pub done_where_wanted : (t : State) (quit : Bool) → quit ≡ false → (is_done t ≡ true) ⊎ (quit ≡ true) → is_done t ≡ true
done_where_wanted t quit wanted (inl done) = done
done_where_wanted t quit wanted (inr called) = absurd (cc)

-- a search that is done doesn't run
pub done_is_over : (v : Seen) → IsSearch v.split v.budget v.root v.history (now v) v.marks → is_done (now v) ≡ true → outcome_of (now v) ≡ outcome.Running → ⊥
done_is_over v is done running =
    let still : is_done (now v) ≡ false = (outcomes_are_true v.split v.budget v.root v.history (now v) is.decomposed is.replayed).running.0 running in
    absurd (cc)
