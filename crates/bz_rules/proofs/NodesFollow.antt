-- The events of nodes may follow.
use Rattle.std.proofs.Common.{◌≡◌, true, false, refl, sym, subst, ℕ, zero, suc, ◌+◌, List, [], ◌∷◌, ◌++◌, length, map, inl, arith}
use Rattle.std.proofs.lemmas.Bool.{eqb-true}
use Rattle.std.specs.Prelude.{◌==◌, Option, Some, None, Bool, cond, is_some, replicate, take, ℤ, pos, ◌+ℤ◌, ◌<ℤ◌}
use Rattle.std.specs.List.{AllByRecursion, enumerate_from, list_any}
use Rattle.bz_first.specs.Tests.{AllHold}
use Rattle.bz_algebra.specs.Sums.{dot}
use Rattle.bz_num.specs.Dense.{entry}
use Rattle.bz_model.specs.declared.Column.{Column}
use Rattle.bz_model.specs.declared.Master.{Master}
use Rattle.bz_model.specs.declared.Model.{Model}
use Rattle.bz_model.specs.Parting.{blocks_of, integers_of, position_of}
use Rattle.bz_model.specs.Points.{IsWhole, coordinate}
use Rattle.bz_model.specs.Splits.{Decomposition}
use Rattle.bz_cut.specs.declared.Cut.{Cut}
use Rattle.bz_cut.specs.declared.Mode.{Mode}
use Rattle.bz_cut.specs.declared.Mode.TheVariants as mode
use Rattle.bz_tree.specs.declared.Leaf.{Leaf}
use Rattle.bz_tree.specs.Boxes.{Box}
use Rattle.bz_tree.specs.Integers.{IntegerHolds, integer_at}
use Rattle.bz_tree.specs.Leaves.{LeafHolds}
use Rattle.bz_tree.specs.TreeFits.{FitsLeaf}
use Rattle.bz_tree.specs.Trees.{IsSplitOf}
use Rattle.bz_tableau.specs.declared.programs.Lp.{Lp}
use Rattle.bz_std.specs.LowestForms.{IsWithinEnds}
use Rattle.bz_std.specs.Meanings.{IsLeastAt, differences}
use Rattle.bz_std.specs.Tasks.{node, node_cost}
use Rattle.bz_std.specs.Told.{IsOfBoth}
use Rattle.bz_std.proofs.Crossing.{least_crosses}
use Rattle.bz_std.proofs.NodesTold.{leaf_fits_told, leaf_holds_told, met_told}
use Rattle.bz_std.proofs.PosedTasks.{node_posed}
use Rattle.bz_event.specs.declared.answers.NodeAnswer.{NodeAnswer}
use Rattle.bz_event.specs.declared.answers.NodeAnswer.TheVariants as answer
use Rattle.bz_event.specs.declared.events.Entry.{Entry}
use Rattle.bz_event.specs.declared.events.Event.{Event}
use Rattle.bz_event.specs.declared.events.Event.TheVariants as event
use Rattle.bz_event.specs.declared.events.How.TheVariants as how
use Rattle.bz_event.specs.declared.tasks.TaskName.{TaskName}
use Rattle.bz_event.specs.Nodes.{HasLeafOfValue, IsNodeAnswer, IsPointOfNode, IsSplitNode, value_of}
use Rattle.bz_history.specs.declared.state.Filled.{Filled}
use Rattle.bz_history.specs.declared.state.Node.{Node}
use Rattle.bz_history.specs.declared.state.Region.{Region}
use Rattle.bz_history.specs.States.{State, box_of, changed, effect, is_done, is_open, mode_of, posted_by, posted_point}
use Rattle.bz_history.specs.Steps.{IsBetter, IsCloseStep, IsPostStep, IsPostedPoint, ReachesBest}
use Rattle.bz_history.proofs.BestSteps.{best_is_filled}
use Rattle.bz_history.proofs.CoverSteps.{points_with}
use Rattle.bz_history.proofs.Lists.{at_end, changed_here}
use Rattle.bz_history.proofs.SplitColumns.{splits_at}
use Rattle.bz_rules.specs.Entries.{best_post, is_better, is_reached, leaf_events, node_events, node_task_events, point_events, reaching, unless_reaching}
use Rattle.bz_rules.specs.Following.{FollowInTurn, IsUnderWay}
use Rattle.bz_rules.specs.Laws.{NodesFollow}
use Rattle.bz_rules.specs.Rules.{node_rules, node_task_rules}
use Rattle.bz_rules.proofs.BestPosts.{better_found, better_later, better_there, reaches_found}
use Rattle.bz_rules.proofs.Completing.{IsComplete, complete_follows}
use Rattle.bz_rules.proofs.GoingOn.{stop_follows}
use Rattle.bz_rules.proofs.NodeEnds.{lower_end, upper_end}
use Rattle.bz_rules.proofs.Tasks.{IsAnswered, IsTask, both, cuts_of_split, one_mode, task_of}

-- ---- lists
any_changed : (f : Node → Node) (nodes : List Node) (i : ℕ) → ((x : Node) → is_open (f x) ≡ is_open x) → list_any is_open (changed f nodes i) ≡ list_any is_open nodes
any_changed f [] i same = refl
any_changed f (x ∷ xs) zero same = rw (same x) refl
any_changed f (x ∷ xs) (suc i) same = rw (any_changed f xs i same) refl

-- whole numbers within their ends
integers_hold : (part : List ℕ) (box : Box) (point : Master) (n : ℕ) (xs : List (ℕ × Column)) → AllByRecursion (IsWithinEnds part box point) (enumerate_from n xs)
    → AllByRecursion (λ position. IsWhole (coordinate point.x position) point.den) (map (λ e. position_of part e.0) xs) → AllByRecursion (IntegerHolds part box point) (enumerate_from n xs)
integers_hold part box point n [] ends whole = tt
integers_hold part box point n (x ∷ xs) ends whole =
    (record { whole = whole.0; at_least = ends.0.at_least; at_most = ends.0.at_most }, integers_hold part box point (n + 1) xs ends.1 whole.1)

-- a leaf of one node is one of each with the same program
leaf_told : (m : Model) (part : List ℕ) (box other : Box) (cuts others : List Cut) (way : Mode) (lp : Lp) → IsOfBoth m part box other cuts others way way lp
    → (value den : ℤ) (o : Option Leaf) (kind : Mode) → HasLeafOfValue m part box cuts kind value den o → HasLeafOfValue m part other others kind value den o
leaf_told m part box other cuts others way lp h value den None mode.Cost l = absurd l
leaf_told m part box other cuts others way lp h value den (Some leaf) mode.Cost l = record {
  holds = leaf_holds_told m part box other cuts others way way lp h leaf l.holds;
  fits = leaf_fits_told m part box other cuts others way way lp h leaf l.fits;
  delta = l.delta;
  bound = l.bound;
}
leaf_told m part box other cuts others way lp h value den o mode.Point l = l

module _ (d : Decomposition) (budget : ℕ) (root : Region) (es : List Entry) (t : State) (search : IsUnderWay d budget root es t)
    (number front : ℕ) (lp : Lp) (running : is_done t ≡ false) (task : IsTask d t number front lp) where
  -- ---- closed by a leaf
  leaf_close : (leaf : Leaf) → LeafHolds d.model d.part (box_of task.x.region) (take front t.cuts) leaf → FitsLeaf d.model d.part (box_of task.x.region) (take front t.cuts) leaf → ReachesBest d t leaf
      → IsCloseStep d budget t number (how.Leaf front leaf)
  leaf_close leaf holds fits reaches = record {
    closing = record {
      node = task.x;
      is_node = task.waits.is_node;
      stands_open = task.waits.stands_open;
      at_most = task.front_is.at_most;
      holds = holds;
      fits = fits;
      reaches = reaches;
    };
    units = search.units running;
  }

  -- unless the leaf reaches the best, the value that it states is better
  unless : (way : Mode) (value den : ℤ) (o : Option Leaf) (events : List Event) → (pos 0) <ℤ den → HasLeafOfValue d.model d.part (box_of task.x.region) (take front t.cuts) way value den o
      → (IsBetter d t way value den → FollowInTurn d budget t events) → FollowInTurn d budget t (unless_reaching number front (reaching d t o) events)
  unless mode.Point value den None events positive l f = f tt
  unless mode.Point value den (Some leaf) events positive l f = absurd (cc)
  unless mode.Cost value den None events positive l f = absurd l
  unless mode.Cost value den (Some leaf) events positive l f = by (is_reached d leaf (best_post t)) refl
    where
      by : (b : Bool) → is_reached d leaf (best_post t) ≡ b → FollowInTurn d budget t (unless_reaching number front (cond b (Some leaf) None) events)
      by true h = (running, leaf_close leaf l.holds l.fits (reaches_found d t leaf l.delta h), tt)
      by false h = f (better_found d t leaf value den l.delta positive l.bound h)

  -- ---- a split
  split_close : (basis : List ℕ) (position : ℕ) (value : ℤ) (leaf : Option Leaf) (a : IsSplitNode d.model d.part (box_of task.x.region) (take front t.cuts) (mode_of t) lp basis position value leaf)
      → IsBetter d t (mode_of t) (dot (node_cost d.model d.part mode.Cost) (differences (entry a.z.num))) a.z.den → IsCloseStep d budget t number (how.Split front basis position value)
  split_close basis position value leaf a better = record {
    closing = record {
      waiting = task.x;
      waits = task.waits;
      front_is = task.front_is;
      lp = lp;
      program = task.program;
      z = a.z;
      y = a.y;
      least = a.least;
      first = a.first;
      rounded = a.rounded;
      at_least = lower_end d.model d.part (box_of task.x.region) (take front t.cuts) (mode_of t) (differences (entry a.z.num)) a.z.den at.meets at.den_positive position value split a.rounded.at_most a.rounded.above a.first.fractional;
      below = upper_end d.model d.part (box_of task.x.region) (take front t.cuts) (mode_of t) (differences (entry a.z.num)) a.z.den at.meets at.den_positive position value split a.rounded.at_most a.rounded.above a.first.fractional;
      better = better;
    };
    units = search.units running;
  }
    where
      at : IsLeastAt (node d.model d.part (box_of task.x.region) (take front t.cuts) (mode_of t)) (differences (entry a.z.num)) a.z.den (entry a.y.num) a.y.den
      at = least_crosses (node d.model d.part (box_of task.x.region) (take front t.cuts) (mode_of t)) lp task.program
          (node_posed d.model d.part search.decomposed (box_of task.x.region) (take front t.cuts) (cuts_of_split d budget root es t front search.replayed) (mode_of t)) basis a.z a.y a.least

      split : IsSplitOf d.model d.part (integer_at d.model d.part position) position value (value +ℤ pos 1)
      split = splits_at d.model d.part a.first.place position value a.first.inside a.first.position_is

  split_positive : (basis : List ℕ) (position : ℕ) (value : ℤ) (leaf : Option Leaf) (a : IsSplitNode d.model d.part (box_of task.x.region) (take front t.cuts) (mode_of t) lp basis position value leaf) → (pos 0) <ℤ a.z.den
  split_positive basis position value leaf a =
      (least_crosses (node d.model d.part (box_of task.x.region) (take front t.cuts) (mode_of t)) lp task.program
      (node_posed d.model d.part search.decomposed (box_of task.x.region) (take front t.cuts) (cuts_of_split d budget root es t front search.replayed) (mode_of t)) basis a.z a.y a.least).den_positive

  -- ---- a point
  module _ (point : Master) (leaf : Option Leaf) (a : IsPointOfNode d.model d.part (box_of task.x.region) (take front t.cuts) (mode_of t) point leaf) where
    posted : IsPostedPoint d (mode_of t) (box_of task.x.region) (take front t.cuts) point leaf
    posted = record {
      shape = a.shape;
      rows = a.meets.rows;
      integers = integers_hold d.part (box_of task.x.region) point 0 (integers_of d.model) a.meets.ends a.whole;
      kept = a.meets.kept;
      leaf_is = a.leaf_is;
      fits = a.fits;
      fits_value = a.fits_value;
    }

    post_step : IsPostStep d t number front point leaf
    post_step = record { node = task.x; waits = task.waits; front_is = task.front_is; posted = posted }

    none_to_fill : (n : ℕ) → n ≡ 0 → AllByRecursion (λ (fill : Option Filled). is_some fill ≡ true) (replicate n None)
    none_to_fill zero h = tt
    none_to_fill (suc n) h = absurd (omega (arith, h))

    running_on : is_done (effect d t (event.Post number front point leaf)) ≡ false
    running_on = rw (any_changed (posted_by (length t.posts)) t.nodes number (λ x. refl)) running

    complete : blocks_of d.part ≡ 0 → IsComplete d budget (effect d t (event.Post number front point leaf)) (length t.posts) (posted_point d t.entries number front point leaf)
    complete none = record {
      running = running_on;
      units = search.units running;
      is_post = at_end t.posts (posted_point d t.entries number front point leaf);
      live = refl;
      filled = none_to_fill (blocks_of d.part) none;
      x = posted_by (length t.posts) task.x;
      is_node = changed_here (posted_by (length t.posts)) t.nodes number task.x task.waits.is_node;
      stands_open = task.waits.stands_open;
      front = task.front_is.at_most;
      den = a.shape.den;
      leaf_is = a.leaf_is;
    }

    completed : (b : Bool) → (blocks_of d.part == 0) ≡ b → FollowInTurn d budget (effect d t (event.Post number front point leaf))
        (cond b (cond (is_better d t (mode_of t) point) (event.Incumbent (length t.posts) ∷ []) [] ++ leaf_events (mode_of t) number front leaf) [])
    completed false h = tt
    completed true h = complete_follows d budget (effect d t (event.Post number front point leaf)) (length t.posts) (posted_point d t.entries number front point leaf) (complete (eqb-true _ _ h)) (is_better d t (mode_of t) point)
        (better_later d t (effect d t (event.Post number front point leaf)) (mode_of t) point (best_is_filled d budget root es t search.replayed) refl (points_with t.posts (posted_point d t.entries number front point leaf ∷ [])))
        (better_there d t (effect d t (event.Post number front point leaf)) (mode_of t) point refl (points_with t.posts (posted_point d t.entries number front point leaf ∷ [])))

    point_follows : FollowInTurn d budget t (point_events d t number front point leaf)
    point_follows = (running, post_step, completed (blocks_of d.part == 0) refl)

  -- ---- answers
  pub node_follows : (a : NodeAnswer) → IsNodeAnswer d.model d.part (box_of task.x.region) (take front t.cuts) (mode_of t) lp a → FollowInTurn d budget t (node_events d t number front a)
  node_follows (answer.Empty leaf) a = (running, leaf_close leaf a.holds a.fits (inl a.delta), tt)
  node_follows (answer.Split basis position value leaf) a =
      unless (mode_of t) _ a.z.den leaf (event.Close number (how.Split front basis position value) ∷ []) (split_positive basis position value leaf a) a.leaf_is
      (λ better. (running, split_close basis position value leaf a better, tt))
  node_follows (answer.Point point leaf) a =
      unless (mode_of t) (value_of d.model d.part point) point.den leaf (point_events d t number front point leaf) a.shape.den a.leaf_is (λ better. point_follows point leaf a)

-- ---- the answered node and the node here
-- only where the node has a point does a point's answer say so
answer_told : (m : Model) (part : List ℕ) (box other : Box) (cuts others : List Cut) (way : Mode) (lp : Lp) → IsOfBoth m part box other cuts others way way lp
    → (a : NodeAnswer) → IsNodeAnswer m part box cuts way lp a → IsNodeAnswer m part other others way lp a
answer_told m part box other cuts others way lp h (answer.Empty leaf) a = record {
  holds = leaf_holds_told m part box other cuts others way way lp h leaf a.holds;
  delta = a.delta;
  fits = leaf_fits_told m part box other cuts others way way lp h leaf a.fits;
  impossible = subst (λ q. ¬ Rattle.bz_std.specs.Meanings.IsPossible q) (Rattle.bz_std.proofs.NodesTold.posed_told m part box other cuts others way way lp h) a.impossible;
}
answer_told m part box other cuts others way lp h (answer.Split basis position value leaf) a = record {
  z = a.z;
  y = a.y;
  least = a.least;
  first = a.first;
  rounded = a.rounded;
  leaf_is = leaf_told m part box other cuts others way lp h _ _ leaf way a.leaf_is;
  possible = subst (λ q. Rattle.bz_std.specs.Meanings.IsPossible q) (Rattle.bz_std.proofs.NodesTold.posed_told m part box other cuts others way way lp h) a.possible;
}
answer_told m part box other cuts others way lp h (answer.Point point leaf) a = record {
  shape = a.shape;
  lowest = a.lowest;
  meets = met_told m part box other cuts others way way lp h point a.meets;
  whole = a.whole;
  fits = a.fits;
  fits_value = a.fits_value;
  leaf_is = leaf_told m part box other cuts others way lp h _ _ leaf way a.leaf_is;
  possible = subst (λ q. Rattle.bz_std.specs.Meanings.IsPossible q) (Rattle.bz_std.proofs.NodesTold.posed_told m part box other cuts others way way lp h) a.possible;
}

pub nodes_follow : NodesFollow
nodes_follow d budget root es t s search k rules =
    stop_follows d budget t (node_task_events d t s.answer s.task)
    (subst (λ (n : TaskName). FollowInTurn d budget t (node_task_events d t s.answer n)) (sym k.solves.task) (node_follows d budget root es t search k.number k.front s.lp here.0 task s.answer told))
  where
    here : AllHold (node_rules d t k.number k.front s.lp)
    here = subst (λ (n : TaskName). AllHold (node_task_rules d t s.lp n)) k.solves.task rules

    task : IsTask d t k.number k.front s.lp
    task = task_of d t k.number k.front s.lp here

    answered : IsAnswered d.model d.part k.box k.cuts k.way s.lp
    answered = record { of_split = k.solves.of_split; block = k.solves.block; program = k.solves.program }

    way : k.way ≡ mode_of t
    way = one_mode d budget root es t k.number k.front k.box k.cuts k.way s.lp search task answered

    told : IsNodeAnswer d.model d.part (box_of task.x.region) (take k.front t.cuts) (mode_of t) s.lp s.answer
    told = answer_told d.model d.part k.box (box_of task.x.region) k.cuts (take k.front t.cuts) (mode_of t) s.lp
        (subst (λ (w : Mode). IsOfBoth d.model d.part k.box (box_of task.x.region) k.cuts (take k.front t.cuts) w (mode_of t) s.lp) way
        (both d budget root es t k.number k.front k.box k.cuts k.way s.lp search task answered))
        s.answer
        (subst (λ (w : Mode). IsNodeAnswer d.model d.part k.box k.cuts w s.lp s.answer) way k.solves.answer)
