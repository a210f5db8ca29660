-- The events of a node's answer for the history, with the stop for the budget.
use Rattle.std.proofs.Common.{◌≡◌, ◌∙◌, ap, ℕ, List, ◌++◌}
use Rattle.std.specs.Prelude.{Bool}
use Rattle.bz_model.specs.Splits.{Decomposition}
use Rattle.bz_event.specs.declared.events.Event.{Event}
use Rattle.bz_history.specs.States.{State}
use Rattle.bz_rules.specs.Entries.{after, and_stop, is_spent}
use Rattle.bz_core.specs.declared.entering.Planned.{Planned}
use Rattle.bz_core.specs.Separations.{answer_events, planned_events, stop_events}

-- where those for the state are the same, and it is known whether the units are spent
pub appended_events : (d : Decomposition) (budget : ℕ) (t : State) (number : ℕ) (entered appended : Planned) (spent : Bool)
    → planned_events number entered ≡ planned_events number appended → spent ≡ is_spent budget (after d t (planned_events number entered))
    → answer_events appended.first number appended.completion spent ≡ and_stop d budget t (planned_events number appended)
appended_events d budget t number entered appended spent same is =
    ap (λ (b : Bool). planned_events number appended ++ stop_events b) (is ∙ ap (λ (es : List Event). is_spent budget (after d t es)) same)
