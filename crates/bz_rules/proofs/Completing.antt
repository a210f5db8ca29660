-- A post that is complete: it may become the best, and its node may be closed.
use Rattle.std.proofs.Common.{◌≡◌, true, false, refl, sym, subst, ℕ, ◌<◌, ◌≤◌, List, [], ◌∷◌, ◌++◌, length, inr, arith}
use Rattle.std.proofs.lemmas.Int.{ints}
use Rattle.std.specs.Prelude.{Option, Some, None, Bool, not, ◌||◌, ◌&&◌, cond, is_some, take, pos, ◌*ℤ◌, ◌<ℤ◌}
use Rattle.std.specs.List.{list_any}
use Rattle.bz_model.specs.Splits.{Decomposition}
use Rattle.bz_cut.specs.declared.Mode.{Mode}
use Rattle.bz_cut.specs.declared.Mode.TheVariants as mode
use Rattle.bz_tree.specs.declared.Leaf.{Leaf}
use Rattle.bz_event.specs.declared.events.Event.TheVariants as event
use Rattle.bz_event.specs.declared.events.How.TheVariants as how
use Rattle.bz_event.specs.Nodes.{HasLeafOfValue, IsLeafOfValue, value_of}
use Rattle.bz_history.specs.declared.state.FallingRay.{FallingRay}
use Rattle.bz_history.specs.declared.state.Node.{Node}
use Rattle.bz_history.specs.declared.state.Post.{Post}
use Rattle.bz_history.specs.States.{State, box_of, effect, is_done, is_live, is_open, mode_for, mode_of}
use Rattle.bz_history.specs.Steps.{IsAt, IsBetter, IsCloseStep, IsFilled, IsIncumbentStep, ReachesBest}
use Rattle.bz_rules.specs.Entries.{leaf_events}
use Rattle.bz_rules.specs.Following.{FollowInTurn}
use Rattle.bz_rules.proofs.BestPosts.{HasBetter, reached_by_value}

-- post number i is live and complete, its node open, and units are left
pub record IsComplete (d : Decomposition) (budget : ℕ) (u : State) (i : ℕ) (post : Post) : Type 0 where
  pub running : is_done u ≡ false
  pub units : u.units < budget
  pub is_post : IsAt u.posts i post
  pub live : is_live post ≡ true
  pub filled : IsFilled post
  pub x : Node
  pub is_node : IsAt u.nodes post.node x
  pub stands_open : is_open x ≡ true
  pub front : post.front ≤ length u.cuts
  pub den : (pos 0) <ℤ post.point.den
  pub leaf_is : HasLeafOfValue d.model d.part (box_of x.region) (take post.front u.cuts) (mode_of u) (value_of d.model d.part post.point) post.point.den post.leaf

-- in mode Cost the search runs on with a best post
still_running : (stopped closed : Bool) (ray : Option FallingRay) (best other : Option ℕ) → mode_for ray ≡ mode.Cost → (stopped || closed || (is_some ray && is_some best)) ≡ false → (stopped || closed || (is_some ray && is_some other)) ≡ false
still_running stopped closed None best other way h = h
still_running stopped closed (Some ray) best other way h = absurd (cc)

module _ (d : Decomposition) (budget : ℕ) (u : State) (i : ℕ) (post : Post) (k : IsComplete d budget u i post) where
  incumbent : IsBetter d u (mode_of u) (value_of d.model d.part post.point) post.point.den → IsIncumbentStep d u i
  incumbent better = record { post = post; is_post = k.is_post; live = k.live; filled = k.filled; better = better }

  -- closed by the leaf, in the state with this best post
  closing : (leaf : Leaf) → IsLeafOfValue d.model d.part (box_of k.x.region) (take post.front u.cuts) (value_of d.model d.part post.point) post.point.den leaf
      → (v : State) → v.cuts ≡ u.cuts → v.nodes ≡ u.nodes → v.units ≡ u.units → ReachesBest d v leaf → IsCloseStep d budget v post.node (how.Leaf post.front leaf)
  closing leaf l v cuts nodes units reaches = record {
    closing = record {
      node = k.x;
      is_node = subst (λ (ns : List Node). IsAt ns post.node k.x) (sym nodes) k.is_node;
      stands_open = k.stands_open;
      at_most = subst (λ cs. post.front ≤ length cs) (sym cuts) k.front;
      holds = subst (λ cs. Rattle.bz_tree.specs.Leaves.LeafHolds d.model d.part (box_of k.x.region) (take post.front cs) leaf) (sym cuts) l.holds;
      fits = subst (λ cs. Rattle.bz_tree.specs.TreeFits.FitsLeaf d.model d.part (box_of k.x.region) (take post.front cs) leaf) (sym cuts) l.fits;
      reaches = reaches;
    };
    units = subst (λ (n : ℕ). n < budget) (sym units) k.units;
  }

  reaches_itself : (leaf : Leaf) → IsLeafOfValue d.model d.part (box_of k.x.region) (take post.front u.cuts) (value_of d.model d.part post.point) post.point.den leaf → ReachesBest d (effect d u (event.Incumbent i)) leaf
  reaches_itself leaf l =
      let same : leaf.bound *ℤ post.point.den ≡ value_of d.model d.part post.point *ℤ leaf.delta = l.bound in
      inr (post, (i, refl, k.is_post), l.delta, omega (arith, ints, same))

  reaches_other : (leaf : Leaf) → IsLeafOfValue d.model d.part (box_of k.x.region) (take post.front u.cuts) (value_of d.model d.part post.point) post.point.den leaf → HasBetter d u post.point → ReachesBest d u leaf
  reaches_other leaf l b = inr (
    b.best,
    b.is_best,
    l.delta,
    reached_by_value (value_of d.model d.part post.point) post.point.den leaf.bound leaf.delta (value_of d.model d.part b.best.point) b.best.point.den l.delta k.den l.bound b.at_most,
  )

  pub complete_follows : (b : Bool) → (b ≡ true → IsBetter d u (mode_of u) (value_of d.model d.part post.point) post.point.den) → (b ≡ false → HasBetter d u post.point)
      → FollowInTurn d budget u (cond b (event.Incumbent i ∷ []) [] ++ leaf_events (mode_of u) post.node post.front post.leaf)
  complete_follows b better other = by b (mode_of u) post.leaf refl k.leaf_is better other
    where
      by : (c : Bool) (way : Mode) (o : Option Leaf) → mode_of u ≡ way
          → HasLeafOfValue d.model d.part (box_of k.x.region) (take post.front u.cuts) way (value_of d.model d.part post.point) post.point.den o
          → (c ≡ true → IsBetter d u (mode_of u) (value_of d.model d.part post.point) post.point.den) → (c ≡ false → HasBetter d u post.point)
          → FollowInTurn d budget u (cond c (event.Incumbent i ∷ []) [] ++ leaf_events way post.node post.front o)
      by true mode.Point o way l f g = (k.running, incumbent (f refl), tt)
      by false mode.Point o way l f g = tt
      by c mode.Cost None way l f g = absurd l
      by true mode.Cost (Some leaf) way l f g = (
        k.running,
        incumbent (f refl),
        (
          still_running (is_some u.stop) (not (list_any is_open u.nodes)) u.ray u.best (Some i) way k.running,
          closing leaf l (effect d u (event.Incumbent i)) refl refl refl (reaches_itself leaf l),
          tt,
        ),
      )
      by false mode.Cost (Some leaf) way l f g = (k.running, closing leaf l u refl refl refl (reaches_other leaf l (g refl)), tt)
