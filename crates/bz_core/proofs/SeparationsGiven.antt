-- What an accepted answer of a separation makes of a search.
use Rattle.std.proofs.Common.{◌≡◌, true, false, refl, sym, ◌∙◌, ap, subst, ℕ, zero, suc, ◌+◌, ◌-◌, ◌<◌, ◌≤◌, List, [], ◌∷◌, ◌++◌, length, arith, inl, inr}
use Rattle.std.proofs.lemmas.List.{length-append}
use Rattle.std.specs.Prelude.{◌⊎◌, Option, Some, None, Bool, cond}
use Rattle.std.specs.List.{AllByRecursion, slice_get}
use Rattle.bz_first.specs.Tests.{AllHold}
use Rattle.bz_model.specs.Parting.{blocks_of}
use Rattle.bz_model.specs.Splits.{Decomposition}
use Rattle.bz_cut.specs.declared.Cut.{Cut}
use Rattle.bz_cut.specs.declared.Mode.{Mode}
use Rattle.bz_cut.specs.declared.Mode.TheVariants as mode
use Rattle.bz_tree.specs.declared.Leaf.{Leaf}
use Rattle.bz_tree.specs.Boxes.{Box}
use Rattle.bz_event.specs.declared.answers.SepAnswer.{SepAnswer}
use Rattle.bz_event.specs.declared.answers.SepAnswer.TheVariants as answer
use Rattle.bz_event.specs.declared.answers.Solved.{Solved}
use Rattle.bz_event.specs.declared.events.Entry.{Entry}
use Rattle.bz_event.specs.declared.events.Event.{Event}
use Rattle.bz_event.specs.declared.events.Event.TheVariants as event
use Rattle.bz_event.specs.declared.events.How.TheVariants as how
use Rattle.bz_event.specs.declared.events.Why.TheVariants as why
use Rattle.bz_event.specs.declared.tasks.TaskName.{TaskName}
use Rattle.bz_event.specs.declared.tasks.TaskName.TheVariants as name
use Rattle.bz_event.specs.Nodes.{HasLeafOfValue}
use Rattle.bz_event.specs.Separations.{SolvesSomeSeparation}
use Rattle.bz_history.specs.declared.state.Node.{Node}
use Rattle.bz_history.specs.declared.state.Post.{Post}
use Rattle.bz_history.specs.declared.state.Region.{Region}
use Rattle.bz_history.specs.Histories.{IsReplay, count_of}
use Rattle.bz_history.specs.Lives.{HasLivePost}
use Rattle.bz_history.specs.Posts.{IsPostOf}
use Rattle.bz_history.specs.States.{State, changed, changed_at, effect, ended_by, freed_by, freed_where_live, is_done, is_live, live_of, mode_of}
use Rattle.bz_history.specs.Steps.{IsAt}
use Rattle.bz_history.proofs.Lists.{length-changed}
use Rattle.bz_history.proofs.LiveSteps.{lives_are_right}
use Rattle.bz_history.proofs.PostSteps.{posts_are_right}
use Rattle.bz_rules.specs.Entries.{IsKnownAnswer, after, and_stop, complete_events, cut_events, fill_events, is_better, is_last, is_spent, leaf_events, separation_entries, separation_events, separation_task_events}
use Rattle.bz_rules.specs.Following.{FollowInTurn, stamped}
use Rattle.bz_rules.specs.Rules.{fill_rules, separation_answer_rules, separation_rules, separation_task_rules}
use Rattle.bz_rules.proofs.GoingOn.{after_more, histories_go_on}
use Rattle.bz_rules.proofs.SeparationsFollow.{separations_follow}
use Rattle.bz_rules.proofs.Tasks.{there}
use Rattle.bz_core.specs.Handing.{block_marked}
use Rattle.bz_core.specs.Searches.{AreMarks, IsSearch, Marks}
use Rattle.bz_core.proofs.Marking.{block_marked_kept}
use Rattle.bz_core.proofs.GapsKept.{HasGaps, HaveGaps, IsHome, gaps_and_stop, gaps_cut, gaps_fill}

-- ---- as many nodes and posts as before
pub record AreAsMany (t u : State) : Type 0 where
  pub nodes : length u.nodes ≡ length t.nodes
  pub posts : length u.posts ≡ length t.posts

as_many_then : (t u v : State) → AreAsMany t u → AreAsMany u v → AreAsMany t v
as_many_then t u v h g = record { nodes = g.nodes ∙ h.nodes; posts = g.posts ∙ h.posts }

length-where : (b : Bool) (nodes later : List Node) → length later ≡ length nodes → length (cond b later nodes) ≡ length nodes
length-where true nodes later h = h
length-where false nodes later h = refl

pub length-freed : (o : Option Post) (number : ℕ) (nodes : List Node) → length (freed_where_live o number nodes) ≡ length nodes
length-freed None number nodes = refl
length-freed (Some post) number nodes = length-where (is_live post) nodes _ (length-changed (freed_by number) nodes post.node)

pub length-ended : (at : ℕ) (posts : List Post) (o : Option ℕ) → length (changed_at (ended_by at) posts o) ≡ length posts
length-ended at posts None = refl
length-ended at posts (Some i) = length-changed (ended_by at) posts i

-- events of a separation's answer
abbrev pub IsQuiet : Event → Type 0
IsQuiet (event.Append post basis cut) = Unit {0}
IsQuiet (event.Again post basis place) = Unit {0}
IsQuiet (event.Fill post block y) = Unit {0}
IsQuiet (event.Incumbent post) = Unit {0}
IsQuiet (event.Close node (how.Leaf front leaf)) = Unit {0}
IsQuiet (event.Close node (how.Split front basis position value)) = ⊥
IsQuiet (event.Stop reason) = Unit {0}
IsQuiet (event.Floor block basis cut) = ⊥
IsQuiet (event.Ray block direction) = ⊥
IsQuiet (event.Post node front point leaf) = ⊥

quiet_step : (d : Decomposition) (t : State) (e : Event) → IsQuiet e → AreAsMany t (effect d t e)
quiet_step d t (event.Append post basis cut) h = record { nodes = length-freed (slice_get t.posts post) (length t.cuts) t.nodes; posts = length-changed (ended_by t.entries) t.posts post }
quiet_step d t (event.Again post basis place) h = record { nodes = length-freed (slice_get t.posts post) place t.nodes; posts = length-changed (ended_by t.entries) t.posts post }
quiet_step d t (event.Fill post block y) h = record { nodes = refl; posts = length-changed _ t.posts post }
quiet_step d t (event.Incumbent post) h = record { nodes = refl; posts = refl }
quiet_step d t (event.Close node (how.Leaf front leaf)) h = record {
  nodes = length-append (changed _ t.nodes node) [] ∙ plain (length-changed _ t.nodes node);
  posts = length-ended t.entries t.posts (live_of (slice_get t.nodes node));
}
  where
    plain : {n m : ℕ} → n ≡ m → n + 0 ≡ m
    plain same = omega (arith, same)
quiet_step d t (event.Close node (how.Split front basis position value)) h = absurd h
quiet_step d t (event.Stop reason) h = record { nodes = refl; posts = refl }
quiet_step d t (event.Floor block basis cut) h = absurd h
quiet_step d t (event.Ray block direction) h = absurd h
quiet_step d t (event.Post node front point leaf) h = absurd h

pub quiet_steps : (d : Decomposition) (t : State) (events : List Event) → AllByRecursion IsQuiet events → AreAsMany t (after d t events)
quiet_steps d t [] h = record { nodes = refl; posts = refl }
quiet_steps d t (e ∷ events) h = as_many_then t (effect d t e) (after d (effect d t e) events) (quiet_step d t e h.0) (quiet_steps d (effect d t e) events h.1)

pub quiet_more : (xs ys : List Event) → AllByRecursion IsQuiet xs → AllByRecursion IsQuiet ys → AllByRecursion IsQuiet (xs ++ ys)
quiet_more [] ys h g = g
quiet_more (x ∷ xs) ys h g = (h.0, quiet_more xs ys h.1 g)

pub quiet_stop : (b : Bool) → AllByRecursion IsQuiet (cond b (event.Stop why.Budget ∷ []) [])
quiet_stop true = (tt, tt)
quiet_stop false = tt

pub quiet_best : (b : Bool) (number : ℕ) → AllByRecursion IsQuiet (cond b (event.Incumbent number ∷ []) [])
quiet_best true number = (tt, tt)
quiet_best false number = tt

quiet_leaf : (way : Mode) (node front : ℕ) (o : Option Leaf) → AllByRecursion IsQuiet (leaf_events way node front o)
quiet_leaf mode.Cost node front (Some leaf) = (tt, tt)
quiet_leaf mode.Cost node front None = tt
quiet_leaf mode.Point node front o = tt

quiet_where : (b : Bool) (events : List Event) → AllByRecursion IsQuiet events → AllByRecursion IsQuiet (cond b events [])
quiet_where true events h = h
quiet_where false events h = tt

quiet_fill : (d : Decomposition) (t : State) (number block : ℕ) (y : _) (o : Option Post) → AllByRecursion IsQuiet (fill_events d t number block y o)
quiet_fill d t number block y None = tt
quiet_fill d t number block y (Some post) =
    (tt, quiet_where (is_last block y t.entries post) _ (quiet_more _ _ (quiet_best (is_better d t (mode_of t) post.point) number) (quiet_leaf (mode_of t) post.node post.front post.leaf)))

quiet_cut : (number : ℕ) (basis : List ℕ) (cut : Cut) (known : Option ℕ) → AllByRecursion IsQuiet (cut_events number basis cut known)
quiet_cut number basis cut None = (tt, tt)
quiet_cut number basis cut (Some place) = (tt, tt)

quiet : (d : Decomposition) (t : State) (number block : ℕ) (known : Option ℕ) (a : SepAnswer) → AllByRecursion IsQuiet (separation_events d t number block known a)
quiet d t number block known (answer.Cut basis cut) = quiet_cut number basis cut known
quiet d t number block known (answer.Fill y) = quiet_fill d t number block y (slice_get t.posts number)

-- ---- gaps
pub leaf_there : (d : Decomposition) (box : Box) (cuts : List Cut) (way : Mode) (value den : _) (o : Option Leaf) → HasLeafOfValue d.model d.part box cuts way value den o → way ≡ mode.Cost → (l : Leaf) × (o ≡ Some l)
leaf_there d box cuts mode.Cost value den (Some l) h is = (l, refl)
leaf_there d box cuts mode.Cost value den None h is = absurd h
leaf_there d box cuts mode.Point value den o h is = absurd (cc)

module _ (d : Decomposition) (budget : ℕ) (root : Region) (es : List Entry) (t : State) (marks : Marks) (is : IsSearch d budget root es t marks) where
  home : (number : ℕ) (post : Post) → IsAt t.posts number post → is_live post ≡ true → IsHome t number post
  home number post at live =
      let lives : HasLivePost t.nodes post.node number = (lives_are_right d budget root es t is.replayed).of_post number post at live in
      let own : IsPostOf d (mode_of t) t.nodes t.cuts post = posts_are_right d budget root es t is.replayed number post at in
      record { is_post = at; x = lives.node; is_node = lives.is_node; live = lives.live; leaf = leaf_there d _ _ (mode_of t) _ _ post.leaf own.posted.leaf_is }

  gaps_answer : (number block : ℕ) (known : Option ℕ) (a : SepAnswer) (post : Post) → IsAt t.posts number post → (point : _) (lp : _) → AllHold (separation_rules d t block point lp a post) → is_done t ≡ false → HasGaps (after d t (separation_events d t number block known a))
  gaps_answer number block known (answer.Cut basis cut) post at point lp rules running = gaps_cut d t number basis cut known (is.gaps running)
  gaps_answer number block known (answer.Fill y) post at point lp rules running =
      subst (λ (o : Option Post). HasGaps (after d t (fill_events d t number block y o))) (sym at)
      (gaps_fill d t number block y post (home number post at rules.1.0) (is.gaps running))

-- ---- prefixes
pub follow_front : (d : Decomposition) (budget : ℕ) (t : State) (xs ys : List Event) → FollowInTurn d budget t (xs ++ ys) → FollowInTurn d budget t xs
follow_front d budget t [] ys h = tt
follow_front d budget t (x ∷ xs) ys h = (h.0, h.1, follow_front d budget (effect d t x) xs ys h.2)

-- ---- what is made of a search
abbrev pub IsSeparationGiven : Decomposition → ℕ → Region → List Entry → State → Marks → List Event → (number block worker : ℕ) → Type 0
IsSeparationGiven d budget root es t marks events number block worker =
    IsSearch d budget root (es ++ stamped worker (count_of worker es) events) (after d t events)
    (record marks { blocks = block_marked marks.blocks number block false })

pub separation_given : (d : Decomposition) (budget : ℕ) (root : Region) (es : List Entry) (t : State) (marks : Marks)
    (s : Solved SepAnswer) (number block worker : ℕ) (known : Option ℕ) → IsSearch d budget root es t marks → SolvesSomeSeparation d.model d.part s
    → s.task ≡ name.Sep number block → AllHold (separation_answer_rules d t s) → IsKnownAnswer t.cuts known s.answer
    → IsSeparationGiven d budget root es t marks (separation_entries d budget t known s) number block worker
separation_given d budget root es t marks s number block worker known is promise task rules is_known = record {
  decomposed = is.decomposed;
  positive = is.positive;
  at_most = is.at_most;
  replayed = histories_go_on.legal d budget root es t worker events is.replayed follow;
  marks_are = block_marked_kept d (after d t events) marks number block false (record {
    nodes = is.marks_are.nodes ∙ sym many.nodes;
    posts = is.marks_are.posts ∙ sym many.posts;
    blocks = is.marks_are.blocks;
  });
  gaps = λ running. gaps_and_stop d budget t own gaps running;
  left = histories_go_on.units d budget root es t own is.replayed (follow_front d budget t own _ follow);
}
  where
    own : List Event
    own = separation_task_events d t known s.answer s.task

    events : List Event
    events = separation_entries d budget t known s

    follow : FollowInTurn d budget t (separation_entries d budget t known s)
    follow = separations_follow d budget root es t known s (record { decomposed = is.decomposed; replayed = is.replayed; units = is.left }) promise rules is_known

    here : AllHold (separation_task_rules d t s.point s.lp s.answer (name.Sep number block))
    here = subst (λ (n : TaskName). AllHold (separation_task_rules d t s.point s.lp s.answer n)) task rules

    found : (post : Post) × (slice_get t.posts number ≡ Some post) × AllHold (separation_rules d t block s.point s.lp s.answer post)
    found = there (slice_get t.posts number) (separation_rules d t block s.point s.lp s.answer) here.1

    gaps : HasGaps (after d t (separation_task_events d t known s.answer s.task))
    gaps = subst (λ (n : TaskName). HasGaps (after d t (separation_task_events d t known s.answer n))) (sym task)
        (gaps_answer d budget root es t marks is number block known s.answer found.0 found.1 s.point s.lp found.2 here.0)

    all_quiet : AllByRecursion IsQuiet (separation_entries d budget t known s)
    all_quiet = quiet_more (separation_task_events d t known s.answer s.task) _
        (subst (λ (n : TaskName). AllByRecursion IsQuiet (separation_task_events d t known s.answer n)) (sym task) (quiet d t number block known s.answer))
        (quiet_stop (is_spent budget (after d t (separation_task_events d t known s.answer s.task))))

    many : AreAsMany t (after d t (separation_entries d budget t known s))
    many = quiet_steps d t (separation_entries d budget t known s) all_quiet
