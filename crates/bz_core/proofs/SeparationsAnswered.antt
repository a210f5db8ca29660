-- What an accepted answer of a separation answers.
use Rattle.std.proofs.Common.{◌≡◌, subst, ℕ}
use Rattle.std.specs.Prelude.{Option, Some}
use Rattle.std.specs.List.{slice_get}
use Rattle.bz_first.specs.Tests.{AllHold}
use Rattle.bz_model.specs.declared.Master.{Master}
use Rattle.bz_model.specs.Splits.{Decomposition}
use Rattle.bz_tableau.specs.declared.programs.Lp.{Lp}
use Rattle.bz_event.specs.declared.answers.SepAnswer.{SepAnswer}
use Rattle.bz_event.specs.declared.answers.SepAnswer.TheVariants as answer
use Rattle.bz_event.specs.declared.answers.Solved.{Solved}
use Rattle.bz_event.specs.declared.tasks.TaskName.{TaskName}
use Rattle.bz_event.specs.declared.tasks.TaskName.TheVariants as name
use Rattle.bz_history.specs.declared.state.Post.{Post}
use Rattle.bz_history.specs.States.{State}
use Rattle.bz_history.specs.Steps.{IsAt}
use Rattle.bz_rules.specs.Rules.{IsBlock, separation_answer_rules, separation_rules, separation_task_rules}
use Rattle.bz_rules.proofs.Tasks.{there}

-- the post is there, and the block is one of the split's
pub record IsAnswered (d : Decomposition) (t : State) (number block : ℕ) : Type 0 where
  pub post : Post
  pub is_post : IsAt t.posts number post
  pub is_block : IsBlock d block

block_is : (d : Decomposition) (t : State) (block : ℕ) (point : Option Master) (lp : Lp) (a : SepAnswer) (post : Post)
    → AllHold (separation_rules d t block point lp a post) → IsBlock d block
block_is d t block point lp (answer.Cut basis cut) post h = h.0
block_is d t block point lp (answer.Fill y) post h = h.0

pub answered : (d : Decomposition) (t : State) (s : Solved SepAnswer) (number block : ℕ) → s.task ≡ name.Sep number block
    → AllHold (separation_answer_rules d t s) → IsAnswered d t number block
answered d t s number block task rules =
    let here : AllHold (separation_task_rules d t s.point s.lp s.answer (name.Sep number block)) =
    subst (λ (n : TaskName). AllHold (separation_task_rules d t s.point s.lp s.answer n)) task rules in
    let found : (post : Post) × (slice_get t.posts number ≡ Some post) × AllHold (separation_rules d t block s.point s.lp s.answer post) =
    there (slice_get t.posts number) (separation_rules d t block s.point s.lp s.answer) here.1 in
    record { post = found.0; is_post = found.1; is_block = block_is d t block s.point s.lp s.answer found.0 found.2 }
