-- Where a separation is handed out, all rules hold of its answer and of its stop.
use Rattle.std.proofs.Common.{◌≡◌, ℕ, false, true, subst, sym, inl}
use Rattle.std.specs.Prelude.{Option, Some}
use Rattle.bz_first.specs.Tests.{AllHold}
use Rattle.bz_model.specs.declared.Master.{Master}
use Rattle.bz_model.specs.Splits.{Decomposition}
use Rattle.bz_tableau.specs.declared.answers.WideAt.{WideAt}
use Rattle.bz_tableau.specs.declared.answers.WideAt.TheVariants.{Build, Pivot, Den, Fold}
use Rattle.bz_tableau.specs.declared.programs.Lp.{Lp}
use Rattle.bz_std.specs.Tasks.{IsSeparationLp}
use Rattle.bz_event.specs.declared.answers.SepAnswer.{SepAnswer}
use Rattle.bz_event.specs.declared.answers.SepAnswer.TheVariants as answer
use Rattle.bz_event.specs.declared.answers.Solved.{Solved}
use Rattle.bz_event.specs.declared.answers.TaskStop.{TaskStop}
use Rattle.bz_event.specs.declared.answers.TaskStop.TheVariants as stop
use Rattle.bz_event.specs.declared.tasks.TaskName.{TaskName}
use Rattle.bz_event.specs.declared.tasks.TaskName.TheVariants as name
use Rattle.bz_event.specs.Separations.{SolvesSomeSeparation}
use Rattle.bz_event.specs.Stops.{IsWideInSeparation}
use Rattle.bz_history.specs.declared.state.Post.{Post}
use Rattle.bz_history.specs.States.{State, is_done, is_live, mode_of}
use Rattle.bz_history.specs.Steps.{IsAt}
use Rattle.bz_history.proofs.Lists.{at_one}
use Rattle.bz_rules.specs.Rules.{separation_answer_rules, separation_rules, separation_task_rules, stop_rules, stop_task_rules, stopped_rules, where_there}
use Rattle.bz_ending.specs.Laws.{IsLiveTask}
use Rattle.bz_core.specs.Searches.{Seen, now}
use Rattle.bz_core.specs.Tasks.{IsSeparationTask}
use Rattle.bz_crew.specs.Alone.{IsAloneWith}
use Rattle.bz_crew.specs.Turns.{EndsSeparationOf, MayGiveStop, SolvesSeparationOf}

-- ---- answers
answer_rules : (d : Decomposition) (t : State) (number block : ℕ) (point : Option Master) (lp : Lp) (a : SepAnswer) → (k : IsSeparationTask d t number block)
    → point ≡ Some k.post.point → IsSeparationLp d.model d.part k.post.point block (mode_of t) lp → AllHold (separation_rules d t block point lp a k.post)
answer_rules d t number block point lp (answer.Cut basis cut) k is program = (record { first = k.first; last = k.last }, (is, (program, tt)))
answer_rules d t number block point lp (answer.Fill y) k is program =
    (record { first = k.first; last = k.last }, (k.live, (k.empty, (is, (program, tt)))))

pub separation_fits : (d : Decomposition) (t : State) (number block : ℕ) (s : Solved SepAnswer) → is_done t ≡ false → IsSeparationTask d t number block
    → SolvesSeparationOf d t number block s → AllHold (separation_answer_rules d t s)
separation_fits d t number block s running k h =
    let same : h.post ≡ k.post = at_one t.posts number h.post k.post h.is_post k.is_post in
    let is : s.point ≡ Some k.post.point = subst (λ (x : Post). s.point ≡ Some x.point) same h.solves.point_is in
    let program : IsSeparationLp d.model d.part k.post.point block (mode_of t) s.lp =
    subst (λ (x : Post). IsSeparationLp d.model d.part x.point block (mode_of t) s.lp) same h.solves.program in
    let own : AllHold (where_there (Some k.post) (separation_rules d t block s.point s.lp s.answer)) = answer_rules d t number block s.point s.lp s.answer k is program in
    subst (λ (n : TaskName). AllHold (separation_task_rules d t s.point s.lp s.answer n)) (sym h.solves.task)
    (running, subst (λ (o : Option Post). AllHold (where_there o (separation_rules d t block s.point s.lp s.answer))) (sym k.is_post) own)

-- ---- stops
wide_rules : (d : Decomposition) (t : State) (block : ℕ) (point : Option Master) (lp : Lp) (wide : WideAt) (post : Post) → point ≡ Some post.point
    → IsWideInSeparation d.model d.part block post.point (mode_of t) lp wide → AllHold (stopped_rules d t block point lp wide post)
wide_rules d t block point lp (Build row) post is w = (is, (w.1, tt))
wide_rules d t block point lp (Pivot relaxed basis goal row pivot_row column) post is w = (is, (w.0, tt))
wide_rules d t block point lp (Den relaxed basis at) post is w = (is, (w.0, tt))
wide_rules d t block point lp (Fold relaxed basis column list at) post is w = (is, (w.0, tt))

-- its stop may be given
pub separation_stops : (v : Seen) (number block : ℕ) (why : TaskStop) → is_done (now v) ≡ false → IsSeparationTask v.split (now v) number block
    → IsAloneWith (name.Sep number block) v → EndsSeparationOf v.split (now v) number block why → MayGiveStop v why
separation_stops v number block (stop.Wide s) running k alone h =
    let d = v.split in
    let t : State = now v in
    let same : h.post ≡ k.post = at_one t.posts number h.post k.post h.is_post k.is_post in
    let is : s.point ≡ Some k.post.point = subst (λ (x : Post). s.point ≡ Some x.point) same h.ends.0.point_is in
    let wide : IsWideInSeparation d.model d.part block k.post.point (mode_of t) s.lp s.answer =
    subst (λ (x : Post). IsWideInSeparation d.model d.part block x.point (mode_of t) s.lp s.answer) same h.ends.0.wide in
    let own : AllHold (where_there (Some k.post) (stop_rules d t block s.point s.lp s.answer)) =
    (record { first = k.first; last = k.last }, (k.live, (k.empty, wide_rules d t block s.point s.lp s.answer k.post is wide))) in
    record {
      promise = inl (record { post = number; block = block; point = h.post.point; way = mode_of t; stops = h.ends.0 });
      rules = subst (λ (n : TaskName). AllHold (stop_task_rules d t s.point s.lp s.answer n)) (sym h.ends.0.task)
          (running, subst (λ (o : Option Post). AllHold (where_there o (stop_rules d t block s.point s.lp s.answer))) (sym k.is_post) own);
      alone = subst (λ (n : TaskName). IsAloneWith n v) (sym h.ends.0.task) alone;
    }
separation_stops v number block stop.OutOfMemory running k alone h = tt

-- ---- what is promised of an answer
pub some_separation : (d : Decomposition) (t : State) (number block : ℕ) (s : Solved SepAnswer) → SolvesSeparationOf d t number block s → SolvesSomeSeparation d.model d.part s
some_separation d t number block s h = record { post = number; block = block; point = h.post.point; way = mode_of t; solves = h.solves }

-- the post of a separation's task is live
pub live_task : (d : Decomposition) (t : State) (number block : ℕ) (task : TaskName) → IsSeparationTask d t number block → task ≡ name.Sep number block → IsLiveTask t task
live_task d t number block task k is =
    subst (IsLiveTask t) (sym is) (λ (post : Post) (at : IsAt t.posts number post). subst (λ (x : Post). is_live x ≡ true) (at_one t.posts number k.post post k.is_post at) k.live)
