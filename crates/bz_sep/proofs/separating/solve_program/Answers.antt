use Rattle.bz_event.specs.Stops.{IsNoProgram}
use Rattle.bz_sep.proofs.SolvedPrograms.{unbuilt_is}
use Rattle.bz_sep.proofs.separating.solve_program.Goals as goal

pub returns-in-Err : goal.returns-in-Err
returns-in-Err c =
    let task = c.args.task.now in
    let none : IsNoProgram c.no_program.result = c.no_program.ensures in
    rw c.unbuilt_program.ensures (unbuilt_is c.args.split.now.model c.args.split.now.part task.block task.point task.mode c.no_program.result c.in-Err.stop none c.in-Err.ensures.stop)
