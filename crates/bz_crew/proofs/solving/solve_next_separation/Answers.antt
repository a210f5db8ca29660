use Rattle.std.proofs.Common.{◌≡◌, rules, subst}
use Rattle.std.specs.Prelude.{IfErr, IfOk}
use Rattle.std.specs.Result.{IsErrAnd}
use Rattle.bz_model.specs.Splits.{Decomposition}
use Rattle.bz_event.specs.declared.answers.TaskStop.{TaskStop}
use Rattle.bz_event.specs.declared.answers.TaskStop.TheVariants as stop
use Rattle.bz_event.specs.declared.tasks.SepTask.{SepTask}
use Rattle.bz_event.specs.Separations.{SolvesSeparation}
use Rattle.bz_event.specs.Stops.{EndsSeparation}
use Rattle.bz_core.specs.Searches.{now}
use Rattle.bz_crew.proofs.SeparationsSolved.{separation_solved, separation_stopped, separation_unmade}
use Rattle.bz_crew.proofs.solving.solve_next_separation.Goals as goal

pub returns-in_err-task-clause-stopped : goal.returns-in_err-task-clause-stopped
returns-in_err-task-clause-stopped c =
    let told : IsErrAnd c.from_residual.result (λ (e : TaskStop). e ≡ stop.OutOfMemory) = search rules in
    separation_unmade c.args.search.now.split (now c.args.search.now) c.args.post c.args.block c.from_residual.result c.requires told

pub returns-clause-solved : goal.returns-clause-solved
returns-clause-solved c =
    let task : SepTask = c.in_ok-task.task in
    let solved : IfOk c.separate.result (SolvesSeparation c.args.search.now.split.model c.args.search.now.split.part task.post task.block task.point task.mode) =
    subst (λ (d : Decomposition). IfOk c.separate.result (SolvesSeparation d.model d.part task.post task.block task.point task.mode)) c.split.ensures c.separate.ensures.solved in
    separation_solved c.args.search.now.split (now c.args.search.now) c.args.post c.args.block task c.separate.result c.in_ok-task.ensures.copied solved

pub returns-clause-stopped : goal.returns-clause-stopped
returns-clause-stopped c =
    let task : SepTask = c.in_ok-task.task in
    let stopped : IfErr c.separate.result (EndsSeparation c.args.search.now.split.model c.args.search.now.split.part task.post task.block task.point task.mode) =
    subst (λ (d : Decomposition). IfErr c.separate.result (EndsSeparation d.model d.part task.post task.block task.point task.mode)) c.split.ensures c.separate.ensures.stopped in
    separation_stopped c.args.search.now.split (now c.args.search.now) c.args.post c.args.block task c.separate.result c.in_ok-task.ensures.copied stopped
