-- Where a floor is handed out, all rules hold of its answer and of its stop.
use Rattle.std.proofs.Common.{◌≡◌, ◌<◌, ◌≤◌, ℕ, suc, false, length, subst, sym, arith, inl, inr}
use Rattle.bz_first.specs.Tests.{AllHold}
use Rattle.bz_model.specs.Parting.{blocks_of}
use Rattle.bz_model.specs.Splits.{Decomposition}
use Rattle.bz_tableau.specs.declared.programs.Lp.{Lp}
use Rattle.bz_std.specs.Posed.{IsProgramOf}
use Rattle.bz_std.specs.Tasks.{floor}
use Rattle.bz_event.specs.declared.answers.FloorAnswer.{FloorAnswer}
use Rattle.bz_event.specs.declared.answers.Solved.{Solved}
use Rattle.bz_event.specs.declared.answers.TaskStop.{TaskStop}
use Rattle.bz_event.specs.declared.answers.TaskStop.TheVariants as stop
use Rattle.bz_event.specs.declared.tasks.TaskName.{TaskName}
use Rattle.bz_event.specs.declared.tasks.TaskName.TheVariants as name
use Rattle.bz_event.specs.Floors.{SolvesFloor, SolvesSomeFloor}
use Rattle.bz_event.specs.Stops.{EndsFloor}
use Rattle.bz_history.specs.States.{State, is_done}
use Rattle.bz_history.specs.Steps.{IsNextFloor}
use Rattle.bz_rules.specs.Rules.{floor_answer_rules, floor_rules, floor_task_rules, stop_task_rules}
use Rattle.bz_core.specs.Searches.{Seen, now}
use Rattle.bz_crew.specs.Alone.{IsAloneWith}
use Rattle.bz_crew.specs.Turns.{MayGiveStop}

rules_hold : (d : Decomposition) (t : State) (block : ℕ) (lp : Lp) → is_done t ≡ false → IsNextFloor d t block → IsProgramOf (floor d.model d.part block) lp
    → AllHold (floor_rules d t block lp)
rules_hold d t block lp running next program =
    let is : block ≡ suc (length t.floors) = next.next in
    let last : block ≤ blocks_of d.part = next.last in
    let less : length t.floors < block = omega (arith, is) in
    let first : 0 < block = omega (arith, is) in
    (running, (record { first = first; last = last }, (less, (next.no_ray, (is, (program, tt))))))

pub floor_fits : (d : Decomposition) (t : State) (block : ℕ) (s : Solved FloorAnswer) → is_done t ≡ false → IsNextFloor d t block
    → SolvesFloor d.model d.part block s → AllHold (floor_answer_rules d t s)
floor_fits d t block s running next h =
    subst (λ (n : TaskName). AllHold (floor_task_rules d t s.lp n)) (sym h.task) (rules_hold d t block s.lp running next h.program)

-- what is promised of it
pub some_floor : (d : Decomposition) (block : ℕ) (s : Solved FloorAnswer) → SolvesFloor d.model d.part block s → SolvesSomeFloor d.model d.part s
some_floor d block s h = record { block = block; solves = h }

-- its stop may be given
pub floor_stops : (v : Seen) (block : ℕ) (why : TaskStop) → is_done (now v) ≡ false → IsNextFloor v.split (now v) block → IsAloneWith (name.Floor block) v
    → EndsFloor v.split.model v.split.part block why → MayGiveStop v why
floor_stops v block (stop.Wide s) running next alone h = record {
  promise = inr (inl (record { block = block; stops = h }));
  rules = subst (λ (n : TaskName). AllHold (stop_task_rules v.split (now v) s.point s.lp s.answer n)) (sym h.task) (rules_hold v.split (now v) block s.lp running next h.program);
  alone = subst (λ (n : TaskName). IsAloneWith n v) (sym h.task) alone;
}
floor_stops v block stop.OutOfMemory running next alone h = tt
