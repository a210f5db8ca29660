-- A stop may follow.
use Rattle.std.proofs.Common.{◌≡◌, false, sym, ◌∙◌, subst, ℕ, List, [], ◌∷◌, inl, inr}
use Rattle.std.specs.Prelude.{Option, Some, take}
use Rattle.std.specs.List.{slice_get}
use Rattle.bz_first.specs.Tests.{AllHold}
use Rattle.bz_model.specs.declared.Master.{Master}
use Rattle.bz_model.specs.Splits.{Decomposition}
use Rattle.bz_cut.specs.declared.Mode.{Mode}
use Rattle.bz_tableau.specs.declared.answers.WideAt.{WideAt}
use Rattle.bz_tableau.specs.declared.answers.WideAt.TheVariants.{Build, Pivot, Den, Fold}
use Rattle.bz_tableau.specs.declared.programs.Lp.{Lp}
use Rattle.bz_std.specs.Tasks.{IsMasterOf}
use Rattle.bz_std.proofs.CutsOfBases.{one_program_mode}
use Rattle.bz_event.specs.declared.answers.Solved.{Solved}
use Rattle.bz_event.specs.declared.events.Event.TheVariants as event
use Rattle.bz_event.specs.declared.events.Entry.{Entry}
use Rattle.bz_event.specs.declared.events.Why.TheVariants as why
use Rattle.bz_event.specs.declared.tasks.TaskName.{TaskName}
use Rattle.bz_event.specs.declared.tasks.TaskName.TheVariants as name
use Rattle.bz_event.specs.Stops.{IsWideInSeparation, IsWideSeparation, StopsFloor, StopsNode, StopsSeparation, StopsSomeTask, StopsSomeFloor, StopsSomeNode, StopsSomeSeparation}
use Rattle.bz_history.specs.declared.state.Post.{Post}
use Rattle.bz_history.specs.declared.state.Region.{Region}
use Rattle.bz_history.specs.States.{State, box_of, is_done, mode_of}
use Rattle.bz_history.specs.Steps.{IsStopStep, IsStoppedFloor, IsStoppedNode, IsStoppedSeparation}
use Rattle.bz_rules.specs.Following.{IsUnderWay}
use Rattle.bz_rules.specs.Laws.{StopsFollow}
use Rattle.bz_rules.specs.Rules.{floor_rules, node_rules, stop_rules, stop_task_rules, stopped_rules}
use Rattle.bz_rules.proofs.FloorsFollow.{next_floor}
use Rattle.bz_rules.proofs.GoingOn.{stop_follows}
use Rattle.bz_rules.proofs.Tasks.{IsAnswered, IsTask, block_in_point, both, box_of_node, cuts_of_split, one_mode, task_of, there, wide_in_node_told}

module _ (d : Decomposition) (budget : ℕ) (root : Region) (es : List Entry) (t : State) (s : Solved WideAt) (search : IsUnderWay d budget root es t) where
  -- ---- floors
  floor_stops : (k : StopsSomeFloor d.model d.part s) → AllHold (floor_rules d t k.block s.lp) → IsStoppedFloor d t s
  floor_stops k h = record { block = k.block; next = next_floor d t k.block s.lp h; stops = k.stops }

  -- ---- nodes
  node_stops : (k : StopsSomeNode d.model d.part s) → AllHold (node_rules d t k.number k.front s.lp) → IsStoppedNode d t s
  node_stops k h = record {
    ready = task.ready;
    number = k.number;
    front = k.front;
    node = task.x;
    waits = task.waits;
    front_is = task.front_is;
    stops = record {
      task = k.stops.task;
      region = box_of_node d budget root es t k.number task.x search.replayed task.waits.is_node;
      of_split = cuts_of_split d budget root es t k.front search.replayed;
      block = block_in_point d budget root es t search.replayed;
      point_is = k.stops.point_is;
      program = task.program;
      wide = here;
    };
  }
    where
      task : IsTask d t k.number k.front s.lp
      task = task_of d t k.number k.front s.lp h

      answered : IsAnswered d.model d.part k.box k.cuts k.way s.lp
      answered = record { of_split = k.stops.of_split; block = k.stops.block; program = k.stops.program }

      way : k.way ≡ mode_of t
      way = one_mode d budget root es t k.number k.front k.box k.cuts k.way s.lp search task answered

      here : Rattle.bz_event.specs.Stops.IsWideInNode d.model d.part (box_of task.x.region) (take k.front t.cuts) (mode_of t) s.lp s.answer
      here = wide_in_node_told d.model d.part k.box (box_of task.x.region) k.cuts (take k.front t.cuts) (mode_of t) s.lp
          (subst (λ (w : Mode). Rattle.bz_std.specs.Told.IsOfBoth d.model d.part k.box (box_of task.x.region) k.cuts (take k.front t.cuts) w (mode_of t) s.lp) way
          (both d budget root es t k.number k.front k.box k.cuts k.way s.lp search task answered))
          s.answer
          (subst (λ (w : Mode). Rattle.bz_event.specs.Stops.IsWideInNode d.model d.part k.box k.cuts w s.lp s.answer) way k.stops.wide)

  -- ---- separations
  wide_here : (b : ℕ) (point : Option Master) (post : Post) (way : Mode) (lp : Lp) (wide : WideAt) → AllHold (stopped_rules d t b point lp wide post)
      → IsWideInSeparation d.model d.part b post.point way lp wide → IsWideInSeparation d.model d.part b post.point (mode_of t) lp wide
  wide_here b point post way lp (Build row) h w = w
  wide_here b point post way lp (Pivot relaxed basis goal row pivot_row column) h w = (h.1.0, w.1, w.2)
  wide_here b point post way lp (Den relaxed basis at) h w = (h.1.0, w.1, w.2)
  wide_here b point post way lp (Fold relaxed basis column list at) h w =
      let same : way ≡ mode_of t = one_program_mode d.model d.part b post.point post.point way (mode_of t) lp w.0 h.1.0 in
      (h.1.0, w.1, w.2, subst (λ (k : Mode). IsWideSeparation d.model d.part b post.point k lp basis list at) same w.3)

  own_point : (b : ℕ) (point : Option Master) (post : Post) (lp : Lp) (wide : WideAt) → AllHold (stopped_rules d t b point lp wide post) → point ≡ Some post.point
  own_point b point post lp (Build row) h = h.0
  own_point b point post lp (Pivot relaxed basis goal row pivot_row column) h = h.0
  own_point b point post lp (Den relaxed basis at) h = h.0
  own_point b point post lp (Fold relaxed basis column list at) h = h.0

  separation_stops : (k : StopsSomeSeparation d.model d.part s) → AllHold (stop_task_rules d t s.point s.lp s.answer (name.Sep k.post k.block)) → IsStoppedSeparation d t s
  separation_stops k h = record {
    number = k.post;
    block = k.block;
    post = own.0;
    is_post = own.1;
    live = own.2.1.0;
    empty = own.2.1.1.0;
    stops = record {
      task = k.stops.task;
      first = k.stops.first;
      last = k.stops.last;
      point_is = point_is;
      fits = subst (λ (p : Master). IsMasterOf d.part p) same k.stops.fits;
      wide = wide_here k.block s.point own.0 k.way s.lp s.answer own.2.1.1.1 (subst (λ (p : Master). IsWideInSeparation d.model d.part k.block p k.way s.lp s.answer) same k.stops.wide);
    };
  }
    where
      own : (post : Post) × (slice_get t.posts k.post ≡ Some post) × AllHold (stop_rules d t k.block s.point s.lp s.answer post)
      own = there (slice_get t.posts k.post) (stop_rules d t k.block s.point s.lp s.answer) h.1

      point_is : s.point ≡ Some own.0.point
      point_is = own_point k.block s.point own.0 s.lp s.answer own.2.1.1.1

      same : k.point ≡ own.0.point
      same =
          let there_too : Some k.point ≡ Some own.0.point = sym k.stops.point_is ∙ point_is in
          cc

  -- ---- all three
  pub running_task : (n : TaskName) → AllHold (stop_task_rules d t s.point s.lp s.answer n) → is_done t ≡ false
  running_task (name.Floor block) h = h.0
  running_task (name.Node number front) h = h.0
  running_task (name.Sep number block) h = h.0

  here_at : (n : TaskName) → s.task ≡ n → AllHold (stop_task_rules d t s.point s.lp s.answer s.task) → AllHold (stop_task_rules d t s.point s.lp s.answer n)
  here_at n task h = subst (λ (m : TaskName). AllHold (stop_task_rules d t s.point s.lp s.answer m)) task h

  pub may_stop : StopsSomeTask d.model d.part s → AllHold (stop_task_rules d t s.point s.lp s.answer s.task) → IsStopStep d budget t (why.Wide s)
  may_stop (inl k) h = inr (inr (separation_stops k (here_at (name.Sep k.post k.block) k.stops.task h)))
  may_stop (inr (inl k)) h = inl (floor_stops k (here_at (name.Floor k.block) k.stops.task h))
  may_stop (inr (inr k)) h = inr (inl (node_stops k (here_at (name.Node k.number k.front) k.stops.task h)))

pub stops_follow : StopsFollow
stops_follow d budget root es t s search promise rules = stop_follows d budget t (event.Stop (why.Wide s) ∷ [])
    (running_task d budget root es t s search s.task rules, may_stop d budget root es t s search promise rules, tt)
