-- What an answer of a separation adds to a state, piece by piece.
use Rattle.std.specs.Prelude.{ℕ, ◌+◌, ◌≤◌, ◌<◌, Bool, List, [], ◌∷◌, ◌++◌, cond, length, Option, Some, None}
use Rattle.bz_cut.specs.declared.Cut.{Cut}
use Rattle.bz_tree.specs.declared.Leaf.{Leaf}
use Rattle.bz_event.specs.declared.events.Event.{Event}
use Rattle.bz_event.specs.declared.events.Event.TheVariants as event
use Rattle.bz_event.specs.declared.events.Stamp.{Stamp}
use Rattle.bz_event.specs.declared.events.How.TheVariants as how
use Rattle.bz_event.specs.declared.events.Why.TheVariants as why
use Rattle.bz_core.specs.declared.entering.Completion.{Completion}
use Rattle.bz_core.specs.declared.entering.Planned.{Planned}
use Rattle.bz_pool.specs.Pools.{IsNew}
use Rattle.bz_state.specs.Views.{HasPlace, Progress, number_limit}

-- there is room for a cut, which is new in the pool
pub record AddsCut (p : Progress) (cut : Cut) : Type 0 where
  pub cuts : 1 ≤ p.room.cuts
  pub place : HasPlace p.state
  pub units : p.state.units < number_limit
  pub new : IsNew p.state.cuts cut

-- the post becomes the best where it is better
abbrev pub best_events : (number : ℕ) → Bool → List Event
best_events number better = cond better (event.Incumbent number ∷ []) []

-- the node is closed where there is a leaf
abbrev pub closing_events : (node front : ℕ) → Option Leaf → List Event
closing_events node front None = []
closing_events node front (Some leaf) = event.Close node (how.Leaf front leaf) ∷ []

-- the search stops where the units are spent
abbrev pub stop_events : Bool → List Event
stop_events spent = cond spent (event.Stop why.Budget ∷ []) []

-- the stamp of the entry that comes after so many events
abbrev pub later : Stamp → List Event → Stamp
later stamp events = record { worker = stamp.worker; count = stamp.count + length events }

-- what follows where a post is complete
abbrev pub completion_events : (number : ℕ) → Completion → List Event
completion_events number c = best_events number c.better ++ closing_events c.node c.front c.leaf

-- the events of an answer
abbrev pub answer_events : Event → (number : ℕ) → Completion → Bool → List Event
answer_events first number c spent = first ∷ (completion_events number c ++ stop_events spent)

abbrev pub planned_events : (number : ℕ) → Planned → List Event
planned_events number p = p.first ∷ completion_events number p.completion

-- there is room for what the first event of an answer adds
abbrev pub EntersFirst : Progress → Event → Type 0
EntersFirst p (event.Append post basis cut) = AddsCut p cut
EntersFirst p (event.Again post basis number) = HasPlace p.state × (number < number_limit)
EntersFirst p (event.Fill post block y) = HasPlace p.state × (0 < block)
EntersFirst p (event.Floor block basis cut) = ⊥
EntersFirst p (event.Ray block direction) = ⊥
EntersFirst p (event.Post node front point leaf) = ⊥
EntersFirst p (event.Incumbent post) = ⊥
EntersFirst p (event.Close node h) = ⊥
EntersFirst p (event.Stop reason) = ⊥
