-- Events that a worker appends one after the other.
use Rattle.std.specs.Prelude.{ℕ, suc, ◌≡◌, ◌<◌, false, List, [], ◌∷◌}
use Rattle.bz_model.specs.Decomposed.{IsDecomposed}
use Rattle.bz_model.specs.Splits.{Decomposition}
use Rattle.bz_event.specs.declared.events.Entry.{Entry}
use Rattle.bz_event.specs.declared.events.Event.{Event}
use Rattle.bz_history.specs.declared.state.Region.{Region}
use Rattle.bz_history.specs.Histories.{IsReplay}
use Rattle.bz_history.specs.States.{State, effect, is_done}
use Rattle.bz_history.specs.Steps.{MayFollow}

-- each event may follow the state after those before it, in which the search isn't done
abbrev pub FollowInTurn : Decomposition → (budget : ℕ) → State → List Event → Type 0
FollowInTurn d budget t [] = Unit {0}
FollowInTurn d budget t (e ∷ es) =
    (is_done t ≡ false) × MayFollow d budget t e × FollowInTurn d budget (effect d t e) es

-- the events as a worker's entries, with its counts from this one up
abbrev pub stamped : (worker count : ℕ) → List Event → List Entry
stamped worker count [] = []
stamped worker count (e ∷ es) =
    record { stamp = record { worker = worker; count = count }; event = e } ∷ stamped worker (suc count) es

-- units are left unless the search is done
abbrev pub HasUnits : (budget : ℕ) → State → Type 0
HasUnits budget t = is_done t ≡ false → t.units < budget

-- the state of a legal history, with units left unless the search is done
pub record IsUnderWay (d : Decomposition) (budget : ℕ) (root : Region) (es : List Entry) (t : State) : Type 0 where
  pub decomposed : IsDecomposed d.model d.part
  pub replayed : IsReplay d budget root es t
  pub units : HasUnits budget t
