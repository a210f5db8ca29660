-- A search that one worker works on alone.
use Rattle.std.specs.Prelude.{◌≡◌, Bool, false, List}
use Rattle.std.specs.List.{AllByRecursion}
use Rattle.bz_event.specs.declared.events.Entry.{Entry}
use Rattle.bz_event.specs.declared.tasks.TaskName.{TaskName}
use Rattle.bz_core.specs.Handing.{unmarked}
use Rattle.bz_core.specs.Searches.{Marks, Seen}

-- none of the marks is set
abbrev pub AllOff : List Bool → Type 0
AllOff marks = AllByRecursion (λ mark. mark ≡ false) marks

-- nothing is handed out
pub record NothingIsHanded (marks : Marks) : Type 0 where
  pub floor : marks.floor ≡ false
  pub nodes : AllOff marks.nodes
  pub blocks : AllByRecursion AllOff marks.blocks

-- each entry is worker 0's
abbrev pub AreOfWorkerZero : List Entry → Type 0
AreOfWorkerZero es = AllByRecursion (λ e. e.stamp.worker ≡ 0) es

-- Nobody but worker 0 works on the search: nothing is handed out, nobody called it off, and each entry is worker 0's.
pub record IsAlone (v : Seen) : Type 0 where
  pub off : NothingIsHanded v.marks
  pub wanted : v.quit ≡ false
  pub own : AreOfWorkerZero v.history

-- the same, but that this task may be handed out
pub record IsAloneWith (task : TaskName) (v : Seen) : Type 0 where
  pub off : NothingIsHanded (unmarked task v.marks)
  pub wanted : v.quit ≡ false
  pub own : AreOfWorkerZero v.history
