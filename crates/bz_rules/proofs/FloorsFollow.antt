-- The events of floors may follow.
use Rattle.std.proofs.Common.{◌≡◌, sym, subst, ℕ}
use Rattle.bz_first.specs.Tests.{AllHold}
use Rattle.bz_model.specs.Splits.{Decomposition}
use Rattle.bz_event.specs.declared.answers.FloorAnswer.{FloorAnswer}
use Rattle.bz_event.specs.declared.answers.FloorAnswer.TheVariants as answer
use Rattle.bz_event.specs.declared.tasks.TaskName.{TaskName}
use Rattle.bz_event.specs.declared.tasks.TaskName.TheVariants as name
use Rattle.bz_event.specs.Floors.{IsFloorAnswer, SolvesFloor}
use Rattle.bz_tableau.specs.declared.programs.Lp.{Lp}
use Rattle.bz_history.specs.States.{State}
use Rattle.bz_history.specs.Steps.{IsNextFloor}
use Rattle.bz_rules.specs.Entries.{floor_events, floor_task_events}
use Rattle.bz_rules.specs.Following.{FollowInTurn}
use Rattle.bz_rules.specs.Laws.{FloorsFollow}
use Rattle.bz_rules.specs.Rules.{floor_rules, floor_task_rules}
use Rattle.bz_rules.proofs.GoingOn.{stop_follows}

pub next_floor : (d : Decomposition) (t : State) (block : ℕ) (lp : Lp) → AllHold (floor_rules d t block lp) → IsNextFloor d t block
next_floor d t block lp h = record { next = h.1.1.1.1.0; last = h.1.0.last; no_ray = h.1.1.1.0 }

floor_follows : (d : Decomposition) (budget : ℕ) (t : State) (block : ℕ) (lp : Lp) (a : FloorAnswer) → IsFloorAnswer d.model d.part block lp a → AllHold (floor_rules d t block lp) → FollowInTurn d budget t (floor_events block a)
floor_follows d budget t block lp (answer.Floor basis cut) k h =
    (h.0, record { next = next_floor d t block lp h; lp = lp; program = h.1.1.1.1.1.0; of_basis = k }, tt)
floor_follows d budget t block lp (answer.Ray direction) k h =
    (h.0, record { next = next_floor d t block lp h; ray = k }, tt)

pub floors_follow : FloorsFollow
floors_follow d budget root es t s search promise rules =
    let k : SolvesFloor d.model d.part promise.block s = promise.solves in
    let task : s.task ≡ name.Floor promise.block = k.task in
    let here : AllHold (floor_rules d t promise.block s.lp) = subst (λ (n : TaskName). AllHold (floor_task_rules d t s.lp n)) task rules in
    stop_follows d budget t (floor_task_events s.answer s.task)
    (subst (λ (n : TaskName). FollowInTurn d budget t (floor_task_events s.answer n)) (sym task) (floor_follows d budget t promise.block s.lp s.answer k.answer here))
