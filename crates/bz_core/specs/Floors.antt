-- Events of a floor's answer.
use Rattle.std.specs.Prelude.{◌≤◌}
use Rattle.bz_cut.specs.declared.Cut.{Cut}
use Rattle.bz_event.specs.declared.events.Event.{Event}
use Rattle.bz_event.specs.declared.events.Event.TheVariants as event
use Rattle.bz_pool.specs.Pools.{IsNew}
use Rattle.bz_state.specs.Views.{HasPlace, Progress}

-- there is room for a floor, which is new in the pool
pub record AddsFloor (p : Progress) (cut : Cut) : Type 0 where
  pub cuts : 1 ≤ p.room.cuts
  pub floors : 1 ≤ p.room.floors
  pub place : HasPlace p.state
  pub new : IsNew p.state.cuts cut

-- the event is one of a floor's answer, and there is room for what it adds
abbrev pub EntersFloor : Progress → Event → Type 0
EntersFloor p (event.Floor block basis cut) = AddsFloor p cut
EntersFloor p (event.Ray block direction) = HasPlace p.state
EntersFloor p (event.Post node front point leaf) = ⊥
EntersFloor p (event.Append post basis cut) = ⊥
EntersFloor p (event.Again post basis place) = ⊥
EntersFloor p (event.Fill post block y) = ⊥
EntersFloor p (event.Incumbent post) = ⊥
EntersFloor p (event.Close node h) = ⊥
EntersFloor p (event.Stop reason) = ⊥
