-- A copied separation's solution is one of the separation.
use Rattle.std.proofs.Common.{◌≡◌, ℕ, subst, sym}
use Rattle.std.specs.Prelude.{Result, Ok, Err, IfErr, IfOk}
use Rattle.std.specs.Result.{IsErrAnd}
use Rattle.bz_model.specs.declared.Master.{Master}
use Rattle.bz_model.specs.Splits.{Decomposition}
use Rattle.bz_cut.specs.declared.Mode.{Mode}
use Rattle.bz_event.specs.declared.answers.SepAnswer.{SepAnswer}
use Rattle.bz_event.specs.declared.answers.Solved.{Solved}
use Rattle.bz_event.specs.declared.answers.TaskStop.{TaskStop}
use Rattle.bz_event.specs.declared.answers.TaskStop.TheVariants as stop
use Rattle.bz_event.specs.declared.tasks.SepTask.{SepTask}
use Rattle.bz_event.specs.Separations.{SolvesSeparation}
use Rattle.bz_event.specs.Stops.{EndsSeparation}
use Rattle.bz_history.specs.States.{State, mode_of}
use Rattle.bz_core.specs.Copies.{IsCopiedSeparation}
use Rattle.bz_core.specs.Tasks.{IsSeparationTask}
use Rattle.bz_crew.specs.Turns.{EndsSeparationOf, SolvesSeparationOf}

-- what is so of the task's numbers, point and mode is so of the state's
moved : (P : ℕ → ℕ → Master → Mode → Type 0) (t : State) (number block : ℕ) (task : SepTask) → (k : IsCopiedSeparation t number block task)
    → P task.post task.block task.point task.mode → P number block k.post.point (mode_of t)
moved P t number block task k h =
    subst (λ (n : ℕ). P n block k.post.point (mode_of t)) k.number_is
    (subst (λ (b : ℕ). P task.post b k.post.point (mode_of t)) k.block_is
    (subst (λ (p : Master). P task.post task.block p (mode_of t)) k.point_is
    (subst (λ (way : Mode). P task.post task.block task.point way) k.mode_is h)))

pub separation_solved : (d : Decomposition) (t : State) (number block : ℕ) (task : SepTask) (result : Result (Solved SepAnswer) TaskStop) → IsCopiedSeparation t number block task
    → IfOk result (SolvesSeparation d.model d.part task.post task.block task.point task.mode) → IfOk result (SolvesSeparationOf d t number block)
separation_solved d t number block task (Ok s) k h = record {
  post = k.post;
  is_post = k.is_post;
  solves = moved (λ n b p way. SolvesSeparation d.model d.part n b p way s) t number block task k h;
}
separation_solved d t number block task (Err why) k h = tt

pub separation_stopped : (d : Decomposition) (t : State) (number block : ℕ) (task : SepTask) (result : Result (Solved SepAnswer) TaskStop) → IsCopiedSeparation t number block task
    → IfErr result (EndsSeparation d.model d.part task.post task.block task.point task.mode) → IfErr result (EndsSeparationOf d t number block)
separation_stopped d t number block task (Ok s) k h = tt
separation_stopped d t number block task (Err why) k h = record {
  post = k.post;
  is_post = k.is_post;
  ends = moved (λ n b p way. EndsSeparation d.model d.part n b p way why) t number block task k h;
}

-- for want of memory nothing is said
pub separation_unmade : (d : Decomposition) (t : State) (number block : ℕ) (result : Result (Solved SepAnswer) TaskStop) → IsSeparationTask d t number block
    → IsErrAnd result (λ e. e ≡ stop.OutOfMemory) → IfErr result (EndsSeparationOf d t number block)
separation_unmade d t number block (Ok s) k h = tt
separation_unmade d t number block (Err why) k h =
    subst (EndsSeparationOf d t number block) (sym h) (record { post = k.post; is_post = k.is_post; ends = tt })
