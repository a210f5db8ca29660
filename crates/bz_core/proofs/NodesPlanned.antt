-- Answers of nodes that keep their makers' promises can be planned.
use Rattle.std.proofs.Common.{◌≡◌, refl, sym, subst, ℕ, ◌-◌, ◌^◌, ◌<◌, ◌≤◌, List, [], ◌∷◌, length, take, arith}
use Rattle.std.proofs.lemmas.Option.{slice_get_within}
use Rattle.std.specs.Prelude.{Option, Some, None, ℤ, pos, ◌+ℤ◌}
use Rattle.bz_first.specs.Tests.{AllHold}
use Rattle.bz_num.specs.Dense.{entry}
use Rattle.bz_model.specs.declared.Model.{Model}
use Rattle.bz_model.specs.Parting.{integers_of}
use Rattle.bz_model.specs.Splits.{Decomposition}
use Rattle.bz_cut.specs.declared.Cut.{Cut}
use Rattle.bz_cut.specs.declared.Mode.{Mode}
use Rattle.bz_cut.specs.declared.Mode.TheVariants as mode
use Rattle.bz_tree.specs.declared.Leaf.{Leaf}
use Rattle.bz_tree.specs.Boxes.{Box}
use Rattle.bz_tree.specs.Integers.{integer_at}
use Rattle.bz_tree.specs.Trees.{IsSplitOf}
use Rattle.bz_std.specs.Meanings.{IsLeastAt, differences}
use Rattle.bz_std.specs.Tasks.{node}
use Rattle.bz_std.proofs.Crossing.{least_crosses}
use Rattle.bz_std.proofs.PosedTasks.{node_posed}
use Rattle.bz_event.specs.declared.answers.NodeAnswer.{NodeAnswer}
use Rattle.bz_event.specs.declared.answers.NodeAnswer.TheVariants as answer
use Rattle.bz_event.specs.declared.answers.Solved.{Solved}
use Rattle.bz_event.specs.declared.events.Entry.{Entry}
use Rattle.bz_event.specs.declared.events.Event.{Event}
use Rattle.bz_event.specs.declared.events.Event.TheVariants as event
use Rattle.bz_event.specs.declared.events.How.TheVariants as how
use Rattle.bz_event.specs.Nodes.{HasLeafOfValue, IsNodeAnswer, IsSplitNode, SolvesSomeNode}
use Rattle.bz_history.specs.declared.state.Node.{Node}
use Rattle.bz_history.specs.declared.state.Region.{Region}
use Rattle.bz_history.specs.States.{State, box_of, mode_of}
use Rattle.bz_history.proofs.CountSteps.{posts_are_few, posts_have_numbers}
use Rattle.bz_history.proofs.Lists.{at_one}
use Rattle.bz_history.proofs.SplitColumns.{splits_at}
use Rattle.bz_rules.specs.Entries.{node_events, reaching, unless_reaching}
use Rattle.bz_rules.specs.Following.{IsUnderWay}
use Rattle.bz_rules.specs.Rules.{node_rules}
use Rattle.bz_rules.proofs.FittingStates.{states_fit}
use Rattle.bz_rules.proofs.NodeEnds.{lower_end, upper_end}
use Rattle.bz_rules.proofs.Tasks.{IsTask, cuts_of_split, one_mode, task_of}
use Rattle.bz_state.specs.Views.{number_limit}
use Rattle.bz_core.specs.declared.entering.Planned.{Planned}
use Rattle.bz_core.specs.Nodes.{CanAdd, CanBePlanned, CountsPost, FitsAnswer, HasPositiveLeaf, SplitsRegion}
use Rattle.bz_core.specs.Searches.{IsSearch, Marks}
use Rattle.bz_core.specs.Separations.{planned_events}

-- ---- answers that keep their makers' promises
positive_leaf : (m : Model) (part : List ℕ) (box : Box) (cuts : List Cut) (way : Mode) (value den : ℤ) (o : Option Leaf)
    → HasLeafOfValue m part box cuts way value den o → HasPositiveLeaf way o
positive_leaf m part box cuts way value den None h = tt
positive_leaf m part box cuts mode.Cost value den (Some leaf) h = (refl, h.delta)
positive_leaf m part box cuts mode.Point value den (Some leaf) h = absurd (cc)

module _ (d : Decomposition) (budget : ℕ) (root : Region) (es : List Entry) (t : State) (marks : Marks) (s : Solved NodeAnswer) (number front : ℕ)
    (is : IsSearch d budget root es t marks) (k : SolvesSomeNode d.model d.part s) (task : IsTask d t number front s.lp) where
  -- a point of least cost that isn't whole splits the region of each node with the program
  splits : (basis : List ℕ) (position : ℕ) (value : ℤ) (leaf : Option Leaf) → IsSplitNode d.model d.part k.box k.cuts k.way s.lp basis position value leaf
      → SplitsRegion d task.x.region position value
  splits basis position value leaf a = record {
    inside = slice_get_within (integers_of d.model) (integer_at d.model d.part position) split.column split.is_column;
    at_least = lower_end d.model d.part (box_of task.x.region) (take front t.cuts) (mode_of t) (differences (entry a.z.num)) a.z.den at.meets at.den_positive position value split a.rounded.at_most a.rounded.above a.first.fractional;
    below = upper_end d.model d.part (box_of task.x.region) (take front t.cuts) (mode_of t) (differences (entry a.z.num)) a.z.den at.meets at.den_positive position value split a.rounded.at_most a.rounded.above a.first.fractional;
  }
    where
      at : IsLeastAt (node d.model d.part (box_of task.x.region) (take front t.cuts) (mode_of t)) (differences (entry a.z.num)) a.z.den (entry a.y.num) a.y.den
      at = least_crosses (node d.model d.part (box_of task.x.region) (take front t.cuts) (mode_of t)) s.lp task.program
          (node_posed d.model d.part is.decomposed (box_of task.x.region) (take front t.cuts) (cuts_of_split d budget root es t front is.replayed) (mode_of t)) basis a.z a.y a.least

      split : IsSplitOf d.model d.part (integer_at d.model d.part position) position value (value +ℤ pos 1)
      split = splits_at d.model d.part a.first.place position value a.first.inside a.first.position_is

  fits_own : (a : NodeAnswer) → IsNodeAnswer d.model d.part k.box k.cuts k.way s.lp a → FitsAnswer d k.way task.x.region a
  fits_own (answer.Empty leaf) a = tt
  fits_own (answer.Split basis position value leaf) a = (positive_leaf d.model d.part k.box k.cuts k.way _ a.z.den leaf a.leaf_is, splits basis position value leaf a)
  fits_own (answer.Point point leaf) a = (positive_leaf d.model d.part k.box k.cuts k.way _ point.den leaf a.leaf_is, record { shape = a.shape; fits = a.fits_value })

pub can_be_planned : (d : Decomposition) (budget : ℕ) (root : Region) (es : List Entry) (t : State) (marks : Marks) (s : Solved NodeAnswer) (number front : ℕ)
    → IsSearch d budget root es t marks → SolvesSomeNode d.model d.part s → AllHold (node_rules d t number front s.lp) → CanBePlanned d t number s.answer
can_be_planned d budget root es t marks s number front is k rules = record {
  state = states_fit d budget root es t is.replayed;
  node = task.x;
  is_node = task.waits.is_node;
  posted = omega (arith, own, few);
  fits = subst (λ (w : Mode). FitsAnswer d w task.x.region s.answer) way (fits_own d budget root es t marks s number front is k task s.answer k.solves.answer);
}
  where
    task : IsTask d t number front s.lp
    task = task_of d t number front s.lp rules

    search : IsUnderWay d budget root es t
    search = record { decomposed = is.decomposed; replayed = is.replayed; units = is.left }

    way : k.way ≡ mode_of t
    way = one_mode d budget root es t number front k.box k.cuts k.way s.lp search task (record { of_split = k.solves.of_split; block = k.solves.block; program = k.solves.program })

    own : task.x.posted ≤ length t.posts
    own = (posts_are_few d budget root es t is.replayed).own number task.x task.waits.is_node

    few : length t.posts < 2 ^ 32 - 1
    few = posts_have_numbers d budget root es t is.decomposed is.at_most is.replayed

-- ---- what the first event adds can be made
first_of : (n : ℕ) (p : Planned) (e : Event) (events : List Event) → planned_events n p ≡ e ∷ events → p.first ≡ e
first_of n p e events is = cc

-- a leaf that closes the node adds nothing
can_add_unless : (d : Decomposition) (t : State) (n number front : ℕ) (p : Planned) (o : Option Leaf) (e : Event) (events : List Event) → CanAdd d t e
    → planned_events n p ≡ unless_reaching number front o (e ∷ events) → CanAdd d t p.first
can_add_unless d t n number front p None e events can is = subst (CanAdd d t) (sym (first_of n p e events is)) can
can_add_unless d t n number front p (Some leaf) e events can is = subst (CanAdd d t) (sym (first_of n p (event.Close number (how.Leaf front leaf)) [] is)) tt

pub can_add : (d : Decomposition) (t : State) (number front : ℕ) (a : NodeAnswer) (p : Planned) → CanBePlanned d t number a
    → planned_events (length t.posts) p ≡ node_events d t number front a → CanAdd d t p.first
can_add d t number front (answer.Empty leaf) p c is = subst (CanAdd d t) (sym (first_of (length t.posts) p (event.Close number (how.Leaf front leaf)) [] is)) tt
can_add d t number front (answer.Split basis position value leaf) p c is =
    can_add_unless d t (length t.posts) number front p (reaching d t leaf) (event.Close number (how.Split front basis position value)) []
    (record { node = c.node; is_node = c.is_node; region = c.state.regions number c.node c.is_node; splits = c.fits.1 }) is
can_add d t number front (answer.Point point leaf) p c is =
    can_add_unless d t (length t.posts) number front p (reaching d t leaf) (event.Post number front point leaf) _ counts is
  where
    counts : CountsPost t number
    counts x at = subst (λ (y : Node). y.posted < number_limit) (at_one t.nodes number c.node x c.is_node at) c.posted
