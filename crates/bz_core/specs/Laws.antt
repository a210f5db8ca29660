-- What is proved of searches.
use Rattle.std.specs.Prelude.{ℕ, ◌≡◌, ◌⊎◌, false, List}
use Rattle.bz_model.specs.Splits.{Decomposition}
use Rattle.bz_event.specs.declared.events.Entry.{Entry}
use Rattle.bz_history.specs.declared.state.Region.{Region}
use Rattle.bz_history.specs.States.{State, is_done}
use Rattle.bz_core.specs.Searches.{IsSearch, Marks}
use Rattle.bz_core.specs.Tasks.{IsFloorTask, IsNodeTask, IsSeparationTask}

-- there is a floor to be made, a node to be solved, or a block to be separated
abbrev pub HasTask : Decomposition → State → Type 0
HasTask d t =
    ((block : ℕ) × IsFloorTask d t block)
    ⊎ (((number : ℕ) × IsNodeTask d t number) ⊎ ((number : ℕ) × (block : ℕ) × IsSeparationTask d t number block))

-- A search that isn't done has a task.
abbrev pub TasksAreThere : Type 0
TasksAreThere =
    (d : Decomposition) (budget : ℕ) (root : Region) (es : List Entry) (t : State) (marks : Marks) →
    IsSearch d budget root es t marks → is_done t ≡ false → HasTask d t
