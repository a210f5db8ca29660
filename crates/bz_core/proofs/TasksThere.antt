-- A search that isn't done has a task.
use Rattle.std.proofs.Common.{◌≡◌, refl, sym, ap, subst, ℕ, zero, suc, ◌-◌, ◌<◌, ◌≤◌, List, length, arith, inl, inr}
use Rattle.std.specs.Prelude.{◌⊎◌, Option, Some, None, true, false, IsSome}
use Rattle.std.specs.List.{slice_get}
use Rattle.std.proofs.lemmas.Option.{slice_get_within}
use Rattle.bz_model.specs.Parting.{blocks_of}
use Rattle.bz_model.specs.Splits.{Decomposition}
use Rattle.bz_event.specs.declared.events.Entry.{Entry}
use Rattle.bz_history.specs.declared.state.FallingRay.{FallingRay}
use Rattle.bz_history.specs.declared.state.Node.{Node}
use Rattle.bz_history.specs.declared.state.Region.{Region}
use Rattle.bz_history.specs.Lives.{AreLives, IsLivePostOf}
use Rattle.bz_history.specs.Posts.{IsPostOf}
use Rattle.bz_history.specs.States.{State, is_done, is_open}
use Rattle.bz_history.specs.Steps.{AreFloorsReady, IsAt, IsNextFloor}
use Rattle.bz_history.proofs.LiveSteps.{lives_are_right}
use Rattle.bz_history.proofs.PostSteps.{posts_are_right}
use Rattle.bz_history.proofs.SizeSteps.{sizes_are_right}
use Rattle.bz_rules.proofs.GoingOn.{open_while_running}
use Rattle.bz_core.specs.Laws.{HasTask, TasksAreThere}
use Rattle.bz_core.specs.Searches.{HasGap, IsSearch, Marks}

at_most_is : (a b : ℕ) → a ≤ b → (a ≡ b) ⊎ (a < b)
at_most_is zero zero h = inl refl
at_most_is zero (suc b) h = inr (omega arith)
at_most_is (suc a) zero h = absurd (omega arith)
at_most_is (suc a) (suc b) h = later (at_most_is a b (omega arith))
  where
    later : (a ≡ b) ⊎ (a < b) → (suc a ≡ suc b) ⊎ (suc a < suc b)
    later (inl same) = inl (ap suc same)
    later (inr less) = inr (omega arith)

-- a floor is next, or no more are made
floor_or_ready : (d : Decomposition) (t : State) (ray : Option FallingRay) → t.ray ≡ ray → (length t.floors ≡ blocks_of d.part) ⊎ (length t.floors < blocks_of d.part)
    → IsNextFloor d t (suc (length t.floors)) ⊎ AreFloorsReady d t
floor_or_ready d t (Some r) is h = inr (inr (subst (λ (o : Option FallingRay). IsSome o) (sym is) refl))
floor_or_ready d t None is (inl all) = inr (inl all)
floor_or_ready d t None is (inr less) = inl (record { next = refl; last = less; no_ray = is })

-- an open node is a task, or its live post has one
of_node : (d : Decomposition) (budget : ℕ) (root : Region) (es : List Entry) (t : State) (marks : Marks) → IsSearch d budget root es t marks → is_done t ≡ false
    → AreFloorsReady d t → (n : ℕ) (x : Node) → IsAt t.nodes n x → is_open x ≡ true → (live : Option ℕ) → x.live ≡ live → HasTask d t
of_node d budget root es t marks s running ready n x at stands None none =
    inr (inl (n, record { ready = ready; node = x; waits = record { is_node = at; stands_open = stands; unposted = none } }))
of_node d budget root es t marks s running ready n x at stands (Some i) some =
    let lives : AreLives t.nodes t.posts = lives_are_right d budget root es t s.replayed in
    let live : IsLivePostOf t.posts i n = lives.of_node n i x at some in
    let gap : HasGap live.post = s.gaps running i live.post live.is_post live.live in
    let right : IsPostOf d _ t.nodes t.cuts live.post = posts_are_right d budget root es t s.replayed i live.post live.is_post in
    let places : length live.post.fills ≡ blocks_of d.part = right.places in
    let within : gap.place < length live.post.fills = slice_get_within live.post.fills gap.place None gap.empty in
    let back : suc gap.place - 1 ≡ gap.place = omega arith in
    inr (inr (
      i,
      suc gap.place,
      record {
        ready = ready;
        post = live.post;
        is_post = live.is_post;
        live = live.live;
        first = omega arith;
        last = omega arith;
        empty = subst (λ (k : ℕ). slice_get live.post.fills k ≡ Some None) (sym back) gap.empty;
      },
    ))

pub tasks_are_there : TasksAreThere
tasks_are_there d budget root es t marks s running = by (floor_or_ready d t t.ray refl (at_most_is (length t.floors) (blocks_of d.part) (sizes_are_right d budget root es t s.replayed).floors))
  where
    by : IsNextFloor d t (suc (length t.floors)) ⊎ AreFloorsReady d t → HasTask d t
    by (inl next) = inl (suc (length t.floors), next)
    by (inr ready) =
        let some_open : (n : ℕ) × (x : Node) × IsAt t.nodes n x × (is_open x ≡ true) = open_while_running t running in
        of_node d budget root es t marks s running ready some_open.0 some_open.1 some_open.2 some_open.3 some_open.1.live refl
