-- Histories of a search, and what is true of every legal one.
use Rattle.std.specs.Prelude.{ℕ, ◌+◌, ◌≡◌, ◌==◌, cond, List, [], ◌∷◌, take, Some}
use Rattle.std.specs.List.{AllByRecursion, slice_get}
use Rattle.bz_algebra.specs.Numbers.{IsNarrow}
use Rattle.bz_model.specs.declared.Model.{Model}
use Rattle.bz_model.specs.Splits.{Decomposition}
use Rattle.bz_tree.specs.Boxes.{IsRootBox}
use Rattle.bz_event.specs.declared.events.Entry.{Entry}
use Rattle.bz_history.specs.declared.state.Region.{Region}
use Rattle.bz_history.specs.States.{State, box_of, opening, replay}
use Rattle.bz_history.specs.Steps.{IsLegalFrom}

-- how many entries a worker has
abbrev pub count_of : ℕ → List Entry → ℕ
count_of worker [] = 0
count_of worker (e ∷ es) = cond (e.stamp.worker == worker) 1 0 + count_of worker es

-- nothing is appended yet
abbrev pub no_entries : ℕ → ℕ
no_entries worker = 0

-- the region is the box of the whole model, with no wide end
pub record IsRootRegion (m : Model) (root : Region) : Type 0 where
  pub is_root : IsRootBox m (box_of root)
  pub lower : AllByRecursion IsNarrow root.lower
  pub upper : AllByRecursion IsNarrow root.upper

-- the history is legal, and the state is what its entries make of a search that begins with the box of the whole model
pub record IsReplay (d : Decomposition) (budget : ℕ) (root : Region) (es : List Entry) (t : State) : Type 0 where
  pub root_is : IsRootRegion d.model root
  pub legal : IsLegalFrom d budget no_entries (opening root) es
  pub state : replay d (opening root) es ≡ t

-- the counts of each worker's stamps are 0, 1, 2 and on, each once and in order
abbrev pub CountsRise : Type 0
CountsRise =
    (d : Decomposition) (budget : ℕ) (root : Region) (es : List Entry) (t : State) → IsReplay d budget root es t →
    (k : ℕ) (e : Entry) → slice_get es k ≡ Some e → e.stamp.count ≡ count_of e.stamp.worker (take k es)
