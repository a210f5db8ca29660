-- What an accepted answer of a node makes of a search.
use Rattle.std.proofs.Common.{◌≡◌, true, false, refl, ap, subst, ℕ, zero, suc, ◌-◌, ◌≤◌, List, [], ◌∷◌, ◌++◌, length, arith, inl, inr}
use Rattle.std.proofs.lemmas.List.{length-append, length-replicate}
use Rattle.std.specs.Prelude.{◌⊎◌, ◌==◌, Option, Some, None, Bool, cond, replicate}
use Rattle.std.specs.List.{AllByRecursion, slice_get}
use Rattle.bz_first.specs.Tests.{AllHold}
use Rattle.bz_model.specs.declared.Master.{Master}
use Rattle.bz_model.specs.Parting.{blocks_of}
use Rattle.bz_model.specs.Splits.{Decomposition}
use Rattle.bz_tree.specs.declared.Leaf.{Leaf}
use Rattle.bz_event.specs.declared.answers.NodeAnswer.{NodeAnswer}
use Rattle.bz_event.specs.declared.answers.NodeAnswer.TheVariants as answer
use Rattle.bz_event.specs.declared.answers.Solved.{Solved}
use Rattle.bz_event.specs.declared.events.Entry.{Entry}
use Rattle.bz_event.specs.declared.events.Event.{Event}
use Rattle.bz_event.specs.declared.events.Event.TheVariants as event
use Rattle.bz_event.specs.declared.events.How.TheVariants as how
use Rattle.bz_event.specs.declared.tasks.TaskName.{TaskName}
use Rattle.bz_event.specs.declared.tasks.TaskName.TheVariants as name
use Rattle.bz_event.specs.Nodes.{SolvesSomeNode}
use Rattle.bz_history.specs.declared.state.Filled.{Filled}
use Rattle.bz_history.specs.declared.state.Post.{Post}
use Rattle.bz_history.specs.declared.state.Region.{Region}
use Rattle.bz_history.specs.Histories.{count_of}
use Rattle.bz_history.specs.States.{State, changed, changed_at, closed_by, effect, ended_by, filled_by, is_done, live_of, mode_of, posted_by, posted_point, sides_opened}
use Rattle.bz_history.specs.Steps.{IsPostStep}
use Rattle.bz_history.proofs.Lists.{at_more, changed_here, length-changed}
use Rattle.bz_rules.specs.Entries.{after, complete_events, node_entries, node_events, node_task_events, point_events, reaching, unless_reaching}
use Rattle.bz_rules.specs.Following.{FollowInTurn, stamped}
use Rattle.bz_rules.specs.Rules.{node_answer_rules, node_task_rules}
use Rattle.bz_rules.proofs.GoingOn.{histories_go_on}
use Rattle.bz_rules.proofs.NodesFollow.{nodes_follow}
use Rattle.bz_core.specs.Marking.{node_marks, with_room}
use Rattle.bz_core.specs.Searches.{AreMarks, HasGap, IsSearch, Marks}
use Rattle.bz_core.proofs.GapsKept.{HasGaps, HaveGaps, OthersHaveGaps, gaps_and_stop, gaps_complete, gaps_ended}
use Rattle.bz_core.proofs.Marking.{unmarked_kept}
use Rattle.bz_core.proofs.SeparationsGiven.{follow_front, leaf_there, length-ended, length-freed}

-- ---- nodes and posts become no fewer
record HasNoFewer (t u : State) : Type 0 where
  nodes : length t.nodes ≤ length u.nodes
  posts : length t.posts ≤ length u.posts

no_fewer_then : (t u v : State) → HasNoFewer t u → HasNoFewer u v → HasNoFewer t v
no_fewer_then t u v h g = record { nodes = omega (arith, h.nodes, g.nodes); posts = omega (arith, h.posts, g.posts) }

at_least : {n m : ℕ} → m ≡ n → n ≤ m
at_least same = omega (arith, same)

longer : {X : Type 0} (xs ys more : List X) → length ys ≡ length xs → length xs ≤ length (ys ++ more)
longer xs ys more same = omega (arith, same, length-append ys more)

no_fewer_step : (d : Decomposition) (t : State) (e : Event) → HasNoFewer t (effect d t e)
no_fewer_step d t (event.Floor block basis cut) = record { nodes = at_least refl; posts = at_least refl }
no_fewer_step d t (event.Ray block direction) = record { nodes = at_least refl; posts = at_least refl }
no_fewer_step d t (event.Post node front point leaf) = record {
  nodes = at_least (length-changed (posted_by (length t.posts)) t.nodes node);
  posts = longer t.posts t.posts (posted_point d t.entries node front point leaf ∷ []) refl;
}
no_fewer_step d t (event.Append post basis cut) = record {
  nodes = at_least (length-freed (slice_get t.posts post) (length t.cuts) t.nodes);
  posts = at_least (length-changed (ended_by t.entries) t.posts post);
}
no_fewer_step d t (event.Again post basis place) = record {
  nodes = at_least (length-freed (slice_get t.posts post) place t.nodes);
  posts = at_least (length-changed (ended_by t.entries) t.posts post);
}
no_fewer_step d t (event.Fill post block y) = record { nodes = at_least refl; posts = at_least (length-changed (filled_by t.entries block y) t.posts post) }
no_fewer_step d t (event.Incumbent post) = record { nodes = at_least refl; posts = at_least refl }
no_fewer_step d t (event.Close node w) = record {
  nodes = longer t.nodes (changed (closed_by w t.entries (length t.nodes)) t.nodes node) (sides_opened d (length t.cuts) w (slice_get t.nodes node))
      (length-changed (closed_by w t.entries (length t.nodes)) t.nodes node);
  posts = at_least (length-ended t.entries t.posts (live_of (slice_get t.nodes node)));
}
no_fewer_step d t (event.Stop reason) = record { nodes = at_least refl; posts = at_least refl }

no_fewer : (d : Decomposition) (t : State) (events : List Event) → HasNoFewer t (after d t events)
no_fewer d t [] = record { nodes = at_least refl; posts = at_least refl }
no_fewer d t (e ∷ events) = no_fewer_then t (effect d t e) (after d (effect d t e) events) (no_fewer_step d t e) (no_fewer d (effect d t e) events)

-- ---- there is a mark for each
with_more : {X : Type 0} (xs : List X) (x : X) (n m : ℕ) → length xs ≡ n → n ≤ m → length (xs ++ replicate (m - n) x) ≡ m
with_more xs x n m is most = omega (arith, is, most, length-append xs (replicate (m - n) x), length-replicate (m - n) x)

all_replicated : (n k : ℕ) (marks : List Bool) → length marks ≡ n → AllByRecursion (λ m. length m ≡ n) (replicate k marks)
all_replicated n zero marks is = tt
all_replicated n (suc k) marks is = (is, all_replicated n k marks is)

all_with_more : (n : ℕ) (xs ys : List (List Bool)) → AllByRecursion (λ m. length m ≡ n) xs → AllByRecursion (λ m. length m ≡ n) ys → AllByRecursion (λ m. length m ≡ n) (xs ++ ys)
all_with_more n [] ys h g = g
all_with_more n (x ∷ xs) ys h g = (h.0, all_with_more n xs ys h.1 g)

with_room_kept : (d : Decomposition) (t u : State) (marks : Marks) → HasNoFewer t u → AreMarks d t marks → AreMarks d u (with_room d t u marks)
with_room_kept d t u marks more h = record {
  nodes = with_more marks.nodes false (length t.nodes) (length u.nodes) h.nodes more.nodes;
  posts = with_more marks.blocks (replicate (blocks_of d.part) false) (length t.posts) (length u.posts) h.posts more.posts;
  blocks = all_with_more (blocks_of d.part) marks.blocks (replicate (length u.posts - length t.posts) (replicate (blocks_of d.part) false)) h.blocks
      (all_replicated (blocks_of d.part) (length u.posts - length t.posts) (replicate (blocks_of d.part) false) (length-replicate (blocks_of d.part) false));
}

-- ---- gaps
-- a live post's end leaves none without a gap
gaps_closed : (at : ℕ) (posts : List Post) (live : Option ℕ) → HaveGaps posts → HaveGaps (changed_at (ended_by at) posts live)
gaps_closed at posts None h = h
gaps_closed at posts (Some number) h = gaps_ended at number posts (λ i post is live other. h i post is live)

-- the others have gaps beside a new post
others_more : (posts : List Post) (p : Post) → HaveGaps posts → OthersHaveGaps (length posts) (posts ++ p ∷ [])
others_more posts p h i x is live other = by (at_more posts p i x is)
  where
    by : (slice_get posts i ≡ Some x) ⊎ ((p ≡ x) × (i ≡ length posts)) → HasGap x
    by (inl old) = h i x old live
    by (inr new) = absurd (other new.1)

-- where it has one too, all have
gaps_more : (posts : List Post) (p : Post) → HasGap p → HaveGaps posts → HaveGaps (posts ++ p ∷ [])
gaps_more posts p gap h i x is live = by (at_more posts p i x is)
  where
    by : (slice_get posts i ≡ Some x) ⊎ ((p ≡ x) × (i ≡ length posts)) → HasGap x
    by (inl old) = h i x old live
    by (inr new) = subst HasGap new.0 gap

-- with a block a new post has one
first_gap : (n : ℕ) (fill : Option Filled) → (n == 0) ≡ false → slice_get (replicate n fill) 0 ≡ Some fill
first_gap zero fill h = absurd (cc)
first_gap (suc n) fill h = refl

gaps_point : (d : Decomposition) (t : State) (node front : ℕ) (point : Master) (leaf : Option Leaf) → IsPostStep d t node front point leaf → HaveGaps t.posts
    → HasGaps (after d t (point_events d t node front point leaf))
gaps_point d t node front point leaf step h = by (blocks_of d.part == 0) refl
  where
    u : State
    u = effect d t (event.Post node front point leaf)

    p : Post
    p = posted_point d t.entries node front point leaf

    live : live_of (slice_get u.nodes node) ≡ Some (length t.posts)
    live = ap live_of (changed_here (posted_by (length t.posts)) t.nodes node step.node step.waits.is_node)

    by : (b : Bool) → (blocks_of d.part == 0) ≡ b → HasGaps (after d u (cond b (complete_events d t (length t.posts) node front point leaf) []))
    by true none = gaps_complete d t u (length t.posts) node front point leaf refl live (others_more t.posts p h)
        (leaf_there d _ _ (mode_of t) _ _ leaf step.posted.leaf_is)
    by false some = λ running. gaps_more t.posts p (record { place = 0; empty = first_gap (blocks_of d.part) None some }) h

gaps_unless : (d : Decomposition) (budget : ℕ) (t : State) (node front : ℕ) (o : Option Leaf) (events : List Event) → HaveGaps t.posts
    → (FollowInTurn d budget t events → HasGaps (after d t events)) → FollowInTurn d budget t (unless_reaching node front o events)
    → HasGaps (after d t (unless_reaching node front o events))
gaps_unless d budget t node front None events h f follow = f follow
gaps_unless d budget t node front (Some leaf) events h f follow = λ running. gaps_closed t.entries t.posts (live_of (slice_get t.nodes node)) h

gaps_node : (d : Decomposition) (budget : ℕ) (t : State) (node front : ℕ) (a : NodeAnswer) → HaveGaps t.posts
    → FollowInTurn d budget t (node_events d t node front a) → HasGaps (after d t (node_events d t node front a))
gaps_node d budget t node front (answer.Empty leaf) h follow = λ running. gaps_closed t.entries t.posts (live_of (slice_get t.nodes node)) h
gaps_node d budget t node front (answer.Split basis position value leaf) h follow =
    gaps_unless d budget t node front (reaching d t leaf) (event.Close node (how.Split front basis position value) ∷ []) h
    (λ follows running. gaps_closed t.entries t.posts (live_of (slice_get t.nodes node)) h) follow
gaps_node d budget t node front (answer.Point point leaf) h follow =
    gaps_unless d budget t node front (reaching d t leaf) (point_events d t node front point leaf) h
    (λ follows. gaps_point d t node front point leaf follows.1 h) follow

gaps_task : (d : Decomposition) (budget : ℕ) (t : State) (a : NodeAnswer) (task : TaskName) → HaveGaps t.posts
    → FollowInTurn d budget t (node_task_events d t a task) → HasGaps (after d t (node_task_events d t a task))
gaps_task d budget t a (name.Floor block) h follow = λ running. h
gaps_task d budget t a (name.Node node front) h follow = gaps_node d budget t node front a h follow
gaps_task d budget t a (name.Sep post block) h follow = λ running. h

-- ---- what is made of a search
running_there : (d : Decomposition) (t : State) (s : Solved NodeAnswer) (task : TaskName) → AllHold (node_task_rules d t s.lp task) → is_done t ≡ false
running_there d t s (name.Floor block) h = absurd h.0
running_there d t s (name.Node node front) h = h.0
running_there d t s (name.Sep post block) h = absurd h.0

pub node_given : (d : Decomposition) (budget : ℕ) (root : Region) (es : List Entry) (t : State) (marks : Marks)
    (s : Solved NodeAnswer) (worker : ℕ) → IsSearch d budget root es t marks → SolvesSomeNode d.model d.part s
    → AllHold (node_answer_rules d t s)
    → IsSearch d budget root (es ++ stamped worker (count_of worker es) (node_entries d budget t s)) (after d t (node_entries d budget t s)) (node_marks d budget t s marks)
node_given d budget root es t marks s worker is promise rules = record {
  decomposed = is.decomposed;
  positive = is.positive;
  at_most = is.at_most;
  replayed = histories_go_on.legal d budget root es t worker events is.replayed follow;
  marks_are = unmarked_kept d (after d t events) (with_room d t (after d t events) marks) s.task
      (with_room_kept d t (after d t events) marks (no_fewer d t events) is.marks_are);
  gaps = λ running. gaps_and_stop d budget t own
      (gaps_task d budget t s.answer s.task (is.gaps (running_there d t s s.task rules)) (follow_front d budget t own _ follow)) running;
  left = histories_go_on.units d budget root es t own is.replayed (follow_front d budget t own _ follow);
}
  where
    own : List Event
    own = node_task_events d t s.answer s.task

    events : List Event
    events = node_entries d budget t s

    follow : FollowInTurn d budget t (node_entries d budget t s)
    follow = nodes_follow d budget root es t s (record { decomposed = is.decomposed; replayed = is.replayed; units = is.left }) promise rules
