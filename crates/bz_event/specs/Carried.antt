-- What a task comes to, with what it is an answer of.
use Rattle.std.specs.Prelude.{Option, Result, Ok, Err}
use Rattle.bz_model.specs.declared.Master.{Master}
use Rattle.bz_tableau.specs.declared.answers.LpStop.{LpStop}
use Rattle.bz_tableau.specs.declared.answers.LpStop.TheVariants.{Wide, OutOfMemory}
use Rattle.bz_tableau.specs.declared.programs.Lp.{Lp}
use Rattle.bz_event.specs.declared.answers.Solved.{Solved}
use Rattle.bz_event.specs.declared.answers.TaskStop.{TaskStop}
use Rattle.bz_event.specs.declared.answers.TaskStop.TheVariants as stop
use Rattle.bz_event.specs.declared.tasks.TaskName.{TaskName}

-- the answer with the task, its point and its program, or the wide place with them; want of memory alone stays alone
abbrev pub carried : {A : Type 0} → TaskName → Option Master → Lp → Result A LpStop → Result (Solved A) TaskStop
carried task point lp (Ok answer) = Ok (record { task = task; point = point; lp = lp; answer = answer })
carried task point lp (Err (Wide at)) = Err (stop.Wide (record { task = task; point = point; lp = lp; answer = at }))
carried task point lp (Err OutOfMemory) = Err stop.OutOfMemory
