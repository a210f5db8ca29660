-- Every state of a legal history fits its split.
use Rattle.std.proofs.Common.{◌≡◌, refl, sym, subst, ℕ, zero, suc, List, [], ◌∷◌, length, arith, true, false}
use Rattle.std.proofs.lemmas.Int.{ints}
use Rattle.std.specs.Prelude.{Option, Some, None, Bool, cond, ℤ, pos, ◌+ℤ◌, ◌≤ℤ◌, ◌<ℤ◌}
use Rattle.std.specs.List.{AllByRecursion, slice_get}
use Rattle.bz_algebra.specs.Numbers.{IsNarrow}
use Rattle.bz_model.specs.Points.{coordinate}
use Rattle.bz_model.specs.Splits.{Decomposition}
use Rattle.bz_model.proofs.MeetingParts.{all_append}
use Rattle.bz_tree.specs.Integers.{integer_at}
use Rattle.bz_tree.proofs.NarrowSides.{narrow_at, set_narrow}
use Rattle.bz_event.specs.declared.events.Entry.{Entry}
use Rattle.bz_event.specs.declared.events.Event.{Event}
use Rattle.bz_event.specs.declared.events.Event.TheVariants as event
use Rattle.bz_event.specs.declared.events.How.{How}
use Rattle.bz_event.specs.declared.events.How.TheVariants as how
use Rattle.bz_history.specs.declared.state.Node.{Node}
use Rattle.bz_history.specs.declared.state.Post.{Post}
use Rattle.bz_history.specs.declared.state.Region.{Region}
use Rattle.bz_history.specs.Histories.{IsReplay}
use Rattle.bz_history.specs.Posts.{IsPostOf}
use Rattle.bz_history.specs.States.{State, changed, closed_by, effect, freed_by, freed_where_live, is_live, mode_of, posted_by, sides_opened}
use Rattle.bz_history.specs.Steps.{IsClosing, MayFollow}
use Rattle.bz_history.proofs.Growing.{histories_grow}
use Rattle.bz_history.proofs.Lists.{all_at}
use Rattle.bz_history.proofs.PoolSteps.{pools_are_right}
use Rattle.bz_history.proofs.PostSteps.{posts_are_right}
use Rattle.bz_rules.specs.Shapes.{StatesFit}
use Rattle.bz_rules.proofs.Tasks.{box_of_node, cuts_valid}

-- no end is wide
record HasNarrowEnds (region : Region) : Type 0 where
  lower : AllByRecursion IsNarrow region.lower
  upper : AllByRecursion IsNarrow region.upper

abbrev AreNarrowNodes : List Node → Type 0
AreNarrowNodes nodes = AllByRecursion (λ node. HasNarrowEnds node.region) nodes

-- ---- lists
all_changed : (f : Node → Node) (nodes : List Node) (i : ℕ) → ((x : Node) → (f x).region ≡ x.region) → AreNarrowNodes nodes → AreNarrowNodes (changed f nodes i)
all_changed f [] i same h = tt
all_changed f (x ∷ xs) zero same h = (subst HasNarrowEnds (sym (same x)) h.0, h.1)
all_changed f (x ∷ xs) (suc i) same h = (h.0, all_changed f xs i same h.1)

all_where : (b : Bool) (nodes later : List Node) → AreNarrowNodes nodes → AreNarrowNodes later → AreNarrowNodes (cond b later nodes)
all_where true nodes later h g = g
all_where false nodes later h g = h

all_freed : (o : Option Post) (number : ℕ) (nodes : List Node) → AreNarrowNodes nodes → AreNarrowNodes (freed_where_live o number nodes)
all_freed None number nodes h = h
all_freed (Some post) number nodes h = all_where (is_live post) nodes _ h (all_changed (freed_by number) nodes post.node (λ x. refl) h)

between : (l v u : ℤ) → IsNarrow l → IsNarrow u → l ≤ℤ v → v <ℤ u → IsNarrow v × IsNarrow (v +ℤ pos 1)
between l v u nl nu a b = (omega (arith, ints, nl, nu, a, b), omega (arith, ints, nl, nu, a, b))

-- ---- each event
opened_narrow : (d : Decomposition) (t : State) (number : ℕ) (h : How) → IsClosing d t number h → AreNarrowNodes t.nodes → AreNarrowNodes (sides_opened d (length t.cuts) h (slice_get t.nodes number))
opened_narrow d t number (how.Leaf front leaf) may h = tt
opened_narrow d t number (how.Split front basis position value) may h =
    let own : HasNarrowEnds may.waiting.region = all_at (λ (node : Node). HasNarrowEnds node.region) t.nodes number may.waiting h may.waits.is_node in
    let k : ℕ = integer_at d.model d.part position in
    let both : IsNarrow value × IsNarrow (value +ℤ pos 1) = between (coordinate may.waiting.region.lower k) value (coordinate may.waiting.region.upper k)
    (narrow_at may.waiting.region.lower k own.lower) (narrow_at may.waiting.region.upper k own.upper) may.at_least may.below in
    subst (λ (o : Option Node). AreNarrowNodes (sides_opened d (length t.cuts) (how.Split front basis position value) o)) (sym may.waits.is_node) (
      record { lower = own.lower; upper = set_narrow may.waiting.region.upper k value both.0 own.upper },
      (record { lower = set_narrow may.waiting.region.lower k (value +ℤ pos 1) both.1 own.lower; upper = own.upper }, tt),
    )

narrow_step : (d : Decomposition) (budget : ℕ) (t : State) (e : Event) → MayFollow d budget t e → AreNarrowNodes t.nodes → AreNarrowNodes (effect d t e).nodes
narrow_step d budget t (event.Floor block basis cut) may h = h
narrow_step d budget t (event.Ray block direction) may h = h
narrow_step d budget t (event.Post node front point leaf) may h = all_changed (posted_by (length t.posts)) t.nodes node (λ x. refl) h
narrow_step d budget t (event.Append post basis cut) may h = all_freed (slice_get t.posts post) (length t.cuts) t.nodes h
narrow_step d budget t (event.Again post basis place) may h = all_freed (slice_get t.posts post) place t.nodes h
narrow_step d budget t (event.Fill post block y) may h = h
narrow_step d budget t (event.Incumbent post) may h = h
narrow_step d budget t (event.Close number how) may h =
    all_append (λ (node : Node). HasNarrowEnds node.region) (changed (closed_by how t.entries (length t.nodes)) t.nodes number) (sides_opened d (length t.cuts) how (slice_get t.nodes number))
    (all_changed (closed_by how t.entries (length t.nodes)) t.nodes number (λ x. refl) h) (opened_narrow d t number how may.closing h)
narrow_step d budget t (event.Stop reason) may h = h

narrow_nodes : (d : Decomposition) (budget : ℕ) (root : Region) (es : List Entry) (t : State) → IsReplay d budget root es t → AreNarrowNodes t.nodes
narrow_nodes d budget root es t r = histories_grow d budget root (λ before u. AreNarrowNodes u.nodes)
    (record { lower = r.root_is.lower; upper = r.root_is.upper }, tt)
    (λ before u x replayed step old. narrow_step d budget u x.event step.may old) es t r

pub states_fit : StatesFit
states_fit d budget root es t r = record {
  cuts = cuts_valid d t.cuts ((pools_are_right d budget root es t r).valid);
  regions = λ n node at.
      let own : HasNarrowEnds node.region = all_at (λ (x : Node). HasNarrowEnds x.region) t.nodes n node (narrow_nodes d budget root es t r) at in
      record { ends = box_of_node d budget root es t n node r at; lower = own.lower; upper = own.upper };
  posts = λ i post at.
      let own : IsPostOf d (mode_of t) t.nodes t.cuts post = posts_are_right d budget root es t r i post at in
      record { point = own.posted.shape; places = own.places; value = own.posted.fits_value };
}
