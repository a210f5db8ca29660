-- What the events of an answer make of a state, one after the other.
use Rattle.std.proofs.Common.{◌≡◌, true, false, refl, sym, ◌∙◌, ap, subst, ℕ, suc, ◌+◌, ◌<◌, ◌≤◌, List, [], ◌∷◌, ◌++◌, length, arith}
use Rattle.std.specs.Prelude.{Option, Some, None, Bool}
use Rattle.bz_model.specs.Splits.{Decomposition}
use Rattle.bz_tree.specs.declared.Leaf.{Leaf}
use Rattle.bz_event.specs.declared.events.Event.{Event}
use Rattle.bz_event.specs.declared.events.Event.TheVariants as event
use Rattle.bz_history.specs.States.{State, effect}
use Rattle.bz_rules.specs.Entries.{after, and_stop, is_spent}
use Rattle.bz_rules.proofs.GoingOn.{after_more}
use Rattle.bz_core.specs.declared.entering.Planned.{Planned}
use Rattle.bz_core.specs.Separations.{best_events, closing_events, completion_events, planned_events, stop_events}

pub one_more : (d : Decomposition) (t : State) (e : Event) → (effect d t e).entries ≡ suc t.entries
one_more d t (event.Floor block basis cut) = refl
one_more d t (event.Ray block direction) = refl
one_more d t (event.Post node front point leaf) = refl
one_more d t (event.Append post basis cut) = refl
one_more d t (event.Again post basis place) = refl
one_more d t (event.Fill post block y) = refl
one_more d t (event.Incumbent post) = refl
one_more d t (event.Close number h) = refl
one_more d t (event.Stop reason) = refl

pub a_unit_at_most : (d : Decomposition) (t : State) (e : Event) → (effect d t e).units ≤ suc t.units
a_unit_at_most d t (event.Floor block basis cut) = omega arith
a_unit_at_most d t (event.Ray block direction) = omega arith
a_unit_at_most d t (event.Post node front point leaf) = omega arith
a_unit_at_most d t (event.Append post basis cut) = omega arith
a_unit_at_most d t (event.Again post basis place) = omega arith
a_unit_at_most d t (event.Fill post block y) = omega arith
a_unit_at_most d t (event.Incumbent post) = omega arith
a_unit_at_most d t (event.Close number h) = omega arith
a_unit_at_most d t (event.Stop reason) = omega arith

-- a best post is one entry at most, and no unit
pub best_entries : (d : Decomposition) (t : State) (number : ℕ) (b : Bool) → (after d t (best_events number b)).entries ≤ suc t.entries
best_entries d t number true = omega arith
best_entries d t number false = omega arith

pub best_units : (d : Decomposition) (t : State) (number : ℕ) (b : Bool) → (after d t (best_events number b)).units ≡ t.units
best_units d t number true = refl
best_units d t number false = refl

pub closing_entries : (d : Decomposition) (t : State) (node front : ℕ) (o : Option Leaf) → (after d t (closing_events node front o)).entries ≤ suc t.entries
closing_entries d t node front None = omega arith
closing_entries d t node front (Some leaf) = omega arith

-- the events of an answer, in their order
pub entered : (d : Decomposition) (t u v w : State) (number : ℕ) (p : Planned) → u ≡ effect d t p.first → v ≡ after d u (best_events number p.completion.better)
    → w ≡ after d v (closing_events p.completion.node p.completion.front p.completion.leaf) → w ≡ after d t (planned_events number p)
entered d t u v w number p first second third =
    third ∙ ap (λ (x : State). after d x (closing_events p.completion.node p.completion.front p.completion.leaf)) (second ∙ ap (λ (x : State). after d x (best_events number p.completion.better)) first)
    ∙ sym (after_more d (effect d t p.first) (best_events number p.completion.better) (closing_events p.completion.node p.completion.front p.completion.leaf))

pub entered_all : (d : Decomposition) (budget : ℕ) (t w x : State) (events : List Event) (spent : Bool) → w ≡ after d t events → spent ≡ is_spent budget w → x ≡ after d w (stop_events spent)
    → x ≡ after d t (and_stop d budget t events)
entered_all d budget t w x events spent before is last =
    last ∙ ap (λ (b : Bool). after d w (stop_events b)) (is ∙ ap (is_spent budget) before) ∙ ap (λ (y : State). after d y (stop_events (is_spent budget (after d t events)))) before
    ∙ sym (after_more d t events (stop_events (is_spent budget (after d t events))))
