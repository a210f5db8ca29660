-- The events of separations may follow.
use Rattle.std.proofs.Common.{◌≡◌, true, false, refl, sym, ◌∙◌, subst, ℕ, zero, suc, ◌-◌, ◌<◌, ◌≤◌, List, [], ◌∷◌, ◌++◌, inl, inr, arith}
use Rattle.std.proofs.lemmas.Bool.{cases_lt}
use Rattle.std.specs.Prelude.{Option, Some, None, Bool, not, cond, is_none, is_some, set, take}
use Rattle.std.specs.List.{AllByRecursion, list_any, slice_get}
use Rattle.bz_first.specs.Tests.{AllHold}
use Rattle.bz_model.specs.declared.BlockPart.{BlockPart}
use Rattle.bz_model.specs.declared.Master.{Master}
use Rattle.bz_model.specs.Parting.{blocks_of}
use Rattle.bz_model.specs.Splits.{Decomposition}
use Rattle.bz_cut.specs.declared.Cut.{Cut}
use Rattle.bz_cut.specs.declared.Mode.{Mode}
use Rattle.bz_cut.specs.Points.{AreSame, CutsOff}
use Rattle.bz_tableau.specs.declared.programs.Lp.{Lp}
use Rattle.bz_std.specs.CutsOfBases.{CutOf}
use Rattle.bz_std.specs.Tasks.{IsSeparationLp}
use Rattle.bz_std.proofs.CutsOfBases.{one_program_mode}
use Rattle.bz_pool.specs.Pools.{IsPlaceOf}
use Rattle.bz_event.specs.declared.answers.SepAnswer.{SepAnswer}
use Rattle.bz_event.specs.declared.answers.SepAnswer.TheVariants as answer
use Rattle.bz_event.specs.declared.answers.Solved.{Solved}
use Rattle.bz_event.specs.declared.events.Entry.{Entry}
use Rattle.bz_event.specs.declared.events.Event.TheVariants as event
use Rattle.bz_event.specs.declared.tasks.TaskName.{TaskName}
use Rattle.bz_event.specs.declared.tasks.TaskName.TheVariants as name
use Rattle.bz_event.specs.Separations.{IsCutAnswer, IsFillAnswer, IsSepAnswer, SolvesSomeSeparation}
use Rattle.bz_history.specs.declared.state.Filled.{Filled}
use Rattle.bz_history.specs.declared.state.Node.{Node}
use Rattle.bz_history.specs.declared.state.Post.{Post}
use Rattle.bz_history.specs.declared.state.Region.{Region}
use Rattle.bz_history.specs.Lives.{HasLivePost}
use Rattle.bz_history.specs.Posts.{IsPostOf}
use Rattle.bz_history.specs.States.{State, effect, filled_by, is_done, is_live, is_open, mode_of}
use Rattle.bz_history.specs.Steps.{IsAt, IsCutOfPoint, MayFollow}
use Rattle.bz_history.proofs.BestSteps.{best_is_filled}
use Rattle.bz_history.proofs.CoverSteps.{points_changed}
use Rattle.bz_history.proofs.Lists.{all_at, at_one, changed_here}
use Rattle.bz_history.proofs.LiveSteps.{lives_are_right}
use Rattle.bz_history.proofs.PostSteps.{posts_are_right}
use Rattle.bz_rules.specs.Entries.{IsKnown, IsKnownAnswer, cut_events, fill_events, is_better, is_last, leaf_events, separation_events, separation_task_events}
use Rattle.bz_rules.specs.Following.{FollowInTurn, IsUnderWay}
use Rattle.bz_rules.specs.Laws.{SeparationsFollow}
use Rattle.bz_rules.specs.Rules.{separation_rules, separation_task_rules}
use Rattle.bz_rules.proofs.BestPosts.{better_later, better_there}
use Rattle.bz_rules.proofs.Completing.{IsComplete, complete_follows}
use Rattle.bz_rules.proofs.GoingOn.{stop_follows}
use Rattle.bz_rules.proofs.Tasks.{there}

-- ---- lists
at_front : {X : Type 0} (n i : ℕ) (xs : List X) (x : X) → i < n → slice_get xs i ≡ Some x → slice_get (take n xs) i ≡ Some x
at_front zero i xs x l h = absurd (omega (arith, l))
at_front (suc n) i [] x l h = absurd (cc)
at_front (suc n) zero (y ∷ ys) x l h = h
at_front (suc n) (suc i) (y ∷ ys) x l h = at_front n i ys x (omega (arith, l)) h

all_some : (fills : List (Option Filled)) → list_any (λ fill. is_none fill) fills ≡ false → AllByRecursion (λ fill. is_some fill ≡ true) fills
all_some [] h = tt
all_some (None ∷ fills) h = absurd (cc)
all_some (Some fill ∷ fills) h = (refl, all_some fills h)

not_true : (b : Bool) → not b ≡ true → b ≡ false
not_true false h = refl
not_true true h = absurd (cc)

-- ---- cuts
-- a point that one cut breaks breaks each that says the same
same_off : (known cut : Cut) (point : Master) → AreSame known cut → CutsOff cut point → CutsOff known point
same_off known cut point same off = rw (same.beta, same.alpha, same.p0, same.block) off

module _ (d : Decomposition) (budget : ℕ) (root : Region) (es : List Entry) (t : State) (search : IsUnderWay d budget root es t)
    (number block : ℕ) (lp : Lp) (post : Post) (is_post : IsAt t.posts number post) (running : is_done t ≡ false)
    (program : IsSeparationLp d.model d.part post.point block (mode_of t) lp) where
  own : IsPostOf d (mode_of t) t.nodes t.cuts post
  own = posts_are_right d budget root es t search.replayed number post is_post

  of_point : (basis : List ℕ) (cut : Cut) → 0 < block → block ≤ blocks_of d.part → IsCutAnswer d.model d.part block post.point (mode_of t) lp basis cut → IsCutOfPoint d (mode_of t) post.point basis cut
  of_point basis cut first last a =
      let same : block ≡ cut.block = sym a.made.block in
      record {
        lp = lp;
        program = subst (λ (b : ℕ). IsSeparationLp d.model d.part post.point b (mode_of t) lp) same program;
        z = a.z;
        y = a.y;
        least = a.least;
        of_basis = subst (λ (b : ℕ). CutOf d.model d.part (mode_of t) b basis cut) same a.of_basis;
        first = subst (λ (b : ℕ). 0 < b) same first;
        last = subst (λ (b : ℕ). b ≤ blocks_of d.part) same last;
        valid = a.valid;
        cuts_off = a.cuts_off;
      }

  -- a cut that the pool has came after those of the post's front
  came_after : (cut : Cut) (place : ℕ) → IsPlaceOf t.cuts cut place → CutsOff cut post.point → post.front ≤ place
  came_after cut place known off = elim (cases_lt place post.front) [
    | inl l ↦
        let kept : ¬ CutsOff known.known post.point = all_at (λ c. ¬ CutsOff c post.point) (take post.front t.cuts) place known.known own.posted.kept (at_front post.front place t.cuts known.known l known.is_known) in
        absurd (kept (same_off known.known cut post.point known.same off))
    | inr g ↦ g
  ]

  cut_follows : (basis : List ℕ) (cut : Cut) (known : Option ℕ) → 0 < block → block ≤ blocks_of d.part → IsCutAnswer d.model d.part block post.point (mode_of t) lp basis cut → IsKnown t.cuts cut known → FollowInTurn d budget t (cut_events number basis cut known)
  cut_follows basis cut None first last a new = (running, record { post = post; is_post = is_post; of_point = of_point basis cut first last a; fits = a.fits; new = new; units = search.units running }, tt)
  cut_follows basis cut (Some place) first last a known = (running, record { post = post; is_post = is_post; cut = cut; of_point = of_point basis cut first last a; known = known; after = came_after cut place known a.cuts_off }, tt)

  -- ---- fills
  module _ (y : BlockPart) (first : 0 < block) (last : block ≤ blocks_of d.part) (live : is_live post ≡ true) (empty : slice_get post.fills (block - 1) ≡ Some None)
      (a : IsFillAnswer d.model d.part block post.point (mode_of t) y) where
    later : State
    later = effect d t (event.Fill number block y)

    filled : Post
    filled = filled_by t.entries block y post

    fill_step : MayFollow d budget t (event.Fill number block y)
    fill_step = record {
      post = post;
      is_post = is_post;
      live = live;
      first = first;
      last = last;
      empty = empty;
      completes = record { shape = a.shape; rows = a.rows; fits = a.fits; cost = a.cost };
    }

    home : HasLivePost t.nodes post.node number
    home = (lives_are_right d budget root es t search.replayed).of_post number post is_post live

    complete : is_last block y t.entries post ≡ true → IsComplete d budget (effect d t (event.Fill number block y)) number (filled_by t.entries block y post)
    complete h = record {
      running = running;
      units = search.units running;
      is_post = changed_here (filled_by t.entries block y) t.posts number post is_post;
      live = live;
      filled = all_some (set post.fills (block - 1) (Some (record { y = y; at = t.entries }))) (not_true _ h);
      x = own.node;
      is_node = own.is_node;
      stands_open = subst (λ (n : Node). is_open n ≡ true) (at_one t.nodes post.node home.node own.node home.is_node own.is_node) home.stands_open;
      front = own.front;
      den = own.posted.shape.den;
      leaf_is = own.posted.leaf_is;
    }

    completed : (b : Bool) → is_last block y t.entries post ≡ b → FollowInTurn d budget (effect d t (event.Fill number block y))
        (cond b (cond (is_better d t (mode_of t) post.point) (event.Incumbent number ∷ []) [] ++ leaf_events (mode_of t) post.node post.front post.leaf) [])
    completed false h = tt
    completed true h = complete_follows d budget (effect d t (event.Fill number block y)) number (filled_by t.entries block y post) (complete h) (is_better d t (mode_of t) post.point)
        (better_later d t (effect d t (event.Fill number block y)) (mode_of t) post.point (best_is_filled d budget root es t search.replayed) refl (points_changed (filled_by t.entries block y) t.posts number (λ x. refl)))
        (better_there d t (effect d t (event.Fill number block y)) (mode_of t) post.point refl (points_changed (filled_by t.entries block y) t.posts number (λ x. refl)))

    pub fill_follows : FollowInTurn d budget t (fill_events d t number block y (Some post))
    fill_follows = (running, fill_step, completed (is_last block y t.entries post) refl)

module _ (d : Decomposition) (budget : ℕ) (root : Region) (es : List Entry) (t : State) (s : Solved SepAnswer) (search : IsUnderWay d budget root es t)
    (k : SolvesSomeSeparation d.model d.part s) where
  point_here : (post : Post) → s.point ≡ Some post.point → k.point ≡ post.point
  point_here post is =
      let both : Some k.point ≡ Some post.point = sym k.solves.point_is ∙ is in
      cc

  answer_here : (post : Post) → s.point ≡ Some post.point → IsSeparationLp d.model d.part post.point k.block (mode_of t) s.lp → IsSepAnswer d.model d.part k.block post.point (mode_of t) s.lp s.answer
  answer_here post is program =
      let way : k.way ≡ mode_of t = one_program_mode d.model d.part k.block k.point post.point k.way (mode_of t) s.lp k.solves.program program in
      subst (λ (w : Mode). IsSepAnswer d.model d.part k.block post.point w s.lp s.answer) way
      (subst (λ (p : Master). IsSepAnswer d.model d.part k.block p k.way s.lp s.answer) (point_here post is) k.solves.answer)

  by_answer : (a : SepAnswer) (known : Option ℕ) (post : Post) → IsAt t.posts k.post post → is_done t ≡ false
      → ((program : IsSeparationLp d.model d.part post.point k.block (mode_of t) s.lp) → s.point ≡ Some post.point → IsSepAnswer d.model d.part k.block post.point (mode_of t) s.lp a)
      → AllHold (separation_rules d t k.block s.point s.lp a post) → IsKnownAnswer t.cuts known a → FollowInTurn d budget t (separation_events d t k.post k.block known a)
  by_answer (answer.Cut basis cut) known post at running promised h is_known =
      cut_follows d budget root es t search k.post k.block s.lp post at running h.1.1.0 basis cut known k.solves.first k.solves.last (promised h.1.1.0 h.1.0) is_known
  by_answer (answer.Fill y) known post at running promised h is_known =
      subst (λ (o : Option Post). FollowInTurn d budget t (fill_events d t k.post k.block y o)) (sym at)
      (fill_follows d budget root es t search k.post k.block s.lp post at running h.1.1.1.1.0 y k.solves.first k.solves.last h.1.0 h.1.1.0 (promised h.1.1.1.1.0 h.1.1.1.0))

  pub separation_follows : (known : Option ℕ) → AllHold (separation_task_rules d t s.point s.lp s.answer (name.Sep k.post k.block)) → IsKnownAnswer t.cuts known s.answer → FollowInTurn d budget t (separation_events d t k.post k.block known s.answer)
  separation_follows known h is_known =
      let own : (post : Post) × (slice_get t.posts k.post ≡ Some post) × AllHold (separation_rules d t k.block s.point s.lp s.answer post) = there (slice_get t.posts k.post) (separation_rules d t k.block s.point s.lp s.answer) h.1 in
      by_answer s.answer known own.0 own.1 h.0 (λ program is. answer_here own.0 is program) own.2 is_known

pub separations_follow : SeparationsFollow
separations_follow d budget root es t known s search promise rules is_known =
    let task : s.task ≡ name.Sep promise.post promise.block = promise.solves.task in
    let here : AllHold (separation_task_rules d t s.point s.lp s.answer (name.Sep promise.post promise.block)) = subst (λ (n : TaskName). AllHold (separation_task_rules d t s.point s.lp s.answer n)) task rules in
    stop_follows d budget t (separation_task_events d t known s.answer s.task)
    (subst (λ (n : TaskName). FollowInTurn d budget t (separation_task_events d t known s.answer n)) (sym task) (separation_follows d budget root es t s search promise known here is_known))
