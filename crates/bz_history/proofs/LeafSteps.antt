-- The leaves reach the best post's value after each event.
use Rattle.std.proofs.Common.{◌≡◌, refl, sym, ◌∙◌, ap, subst, ℕ, zero, suc, ◌+◌, List, [], ◌∷◌, ◌++◌, length, inl, inr, arith, ℤ, pos, ◌*ℤ◌, ◌≤ℤ◌, ◌<ℤ◌}
use Rattle.std.proofs.lemmas.Int.{ints}
use Rattle.std.specs.Prelude.{◌⊎◌, Option, Some, None, false, is_some, not}
use Rattle.std.specs.List.{list_any, slice_get}
use Rattle.bz_algebra.proofs.Ring.{cancel_le_right, mul_le_right, mul_right}
use Rattle.bz_model.specs.declared.Master.{Master}
use Rattle.bz_model.specs.Splits.{Decomposition}
use Rattle.bz_cut.specs.declared.Mode.{Mode}
use Rattle.bz_cut.specs.declared.Mode.TheVariants as mode
use Rattle.bz_tree.specs.declared.Leaf.{Leaf}
use Rattle.bz_event.specs.declared.events.Event.{Event}
use Rattle.bz_event.specs.declared.events.Event.TheVariants as event
use Rattle.bz_event.specs.declared.events.How.{How}
use Rattle.bz_event.specs.declared.events.How.TheVariants as how
use Rattle.bz_event.specs.Nodes.{value_of}
use Rattle.bz_history.specs.declared.state.Closing.{Closing}
use Rattle.bz_history.specs.declared.state.Node.{Node}
use Rattle.bz_history.specs.declared.state.Post.{Post}
use Rattle.bz_history.specs.declared.state.Region.{Region}
use Rattle.bz_history.specs.Leaves.{IsClosedBy, LeavesAreRight, LeavesReach}
use Rattle.bz_history.specs.Posts.{ArePosts}
use Rattle.bz_history.specs.States.{State, changed, closed_by, effect, ended_by, filled_by, is_done, is_open, live_of, mode_of, opening, posted_by, posted_point, side, sides_opened}
use Rattle.bz_history.specs.Steps.{IsAt, IsBelow, IsBetter, IsClosing, IsIncumbentStep, MayFollow, ReachesBest}
use Rattle.bz_history.proofs.CoverSteps.{ArePointsKept, cost_while_running, points_changed, points_ended, points_same, points_with}
use Rattle.bz_history.proofs.Growing.{histories_grow}
use Rattle.bz_history.proofs.Lists.{at_changed, at_either}
use Rattle.bz_history.proofs.PostSteps.{posts_are_right}
use Rattle.bz_history.proofs.TreeSteps.{AreSteady, steady_changed, steady_freed, steady_same}

-- ---- what stays
reach_kept : (d : Decomposition) (t u : State) (leaf : Leaf) → u.best ≡ t.best → ArePointsKept t.posts u.posts → ReachesBest d t leaf → ReachesBest d u leaf
reach_kept d t u leaf best posts (inl e) = inl e
reach_kept d t u leaf best posts (inr (b, is, positive, reach)) =
    let k : (y : Post) × IsAt u.posts is.0 y × (y.point ≡ b.point) = posts is.0 b is.2 in
    inr (
      k.0,
      (is.0, best ∙ is.1, k.1),
      positive,
      subst (λ (point : Master). (value_of d.model d.part point *ℤ leaf.delta) ≤ℤ (leaf.bound *ℤ point.den)) (sym k.2) reach,
    )

closed_before : (nodes later : List Node) (leaf : Leaf) → AreSteady nodes later → IsClosedBy later leaf → IsClosedBy nodes leaf
closed_before nodes later leaf steady c =
    let s : (x : Node) × IsAt nodes c.number x × (c.node.region ≡ x.region) × (c.node.closing ≡ x.closing) = steady c.number c.node c.is_node in
    record { number = c.number; node = s.0; is_node = s.1; closing = c.closing; closed = sym s.3 ∙ c.closed; front = c.front; by_leaf = c.by_leaf }

leaves_kept : (d : Decomposition) (t u : State) → AreSteady t.nodes u.nodes → u.best ≡ t.best → ArePointsKept t.posts u.posts → LeavesReach d t → LeavesReach d u
leaves_kept d t u steady best posts h leaf c = reach_kept d t u leaf best posts (h leaf (closed_before t.nodes u.nodes leaf steady c))

-- ---- a better post
lower_reached : (v den delta bound w e : ℤ) → (pos 0) <ℤ den → (pos 0) <ℤ delta → (pos 0) <ℤ e → IsBelow w e v den → (v *ℤ delta) ≤ℤ (bound *ℤ den) → (w *ℤ delta) ≤ℤ (bound *ℤ e)
lower_reached v den delta bound w e hden hdelta he below reach =
    let a : ((w *ℤ den) *ℤ delta) ≤ℤ ((v *ℤ e) *ℤ delta) = mul_le_right (w *ℤ den) (v *ℤ e) delta (omega (arith, ints)) (omega (arith, ints)) in
    let b : ((v *ℤ delta) *ℤ e) ≤ℤ ((bound *ℤ den) *ℤ e) = mul_le_right (v *ℤ delta) (bound *ℤ den) e (omega (arith, ints)) reach in
    let turned_w : (w *ℤ den) *ℤ delta ≡ (w *ℤ delta) *ℤ den = mul_right w den delta in
    let turned_v : (v *ℤ e) *ℤ delta ≡ (v *ℤ delta) *ℤ e = mul_right v e delta in
    let turned_b : (bound *ℤ den) *ℤ e ≡ (bound *ℤ e) *ℤ den = mul_right bound den e in
    let both : ((w *ℤ delta) *ℤ den) ≤ℤ ((bound *ℤ e) *ℤ den) = omega (arith, ints, a, b, turned_w, turned_v, turned_b) in
    cancel_le_right (w *ℤ delta) (bound *ℤ e) den hden both

incumbent_reached : (d : Decomposition) (t : State) (number : ℕ) (may : IsIncumbentStep d t number) → is_done t ≡ false → ArePosts d t → LeavesReach d t → LeavesReach d (effect d t (event.Incumbent number))
incumbent_reached d t number may running posts h leaf c = by (h leaf c)
  where
    by : ReachesBest d t leaf → ReachesBest d (effect d t (event.Incumbent number)) leaf
    by (inl e) = inl e
    by (inr (b, is, positive, reach)) =
        let cost : mode_of t ≡ mode.Cost = cost_while_running (is_some t.stop) (not (list_any is_open t.nodes)) t.ray t.best is.0 running is.1 in
        let better : IsBetter d t mode.Cost (value_of d.model d.part may.post.point) may.post.point.den = subst (λ (w : Mode). IsBetter d t w (value_of d.model d.part may.post.point) may.post.point.den) cost may.better in
        inr (
          may.post,
          (number, refl, may.is_post),
          positive,
          lower_reached (value_of d.model d.part b.point) b.point.den leaf.delta leaf.bound (value_of d.model d.part may.post.point) may.post.point.den
              (posts is.0 b is.2).posted.shape.den positive (posts number may.post may.is_post).posted.shape.den (better b is) reach,
        )

-- ---- a node is closed
-- sides that a closing opens are open
pub fresh_open : (d : Decomposition) (cuts : ℕ) (h : How) (o : Option Node) (j : ℕ) (z : Node) → slice_get (sides_opened d cuts h o) j ≡ Some z → z.closing ≡ None
fresh_open d cuts (how.Split front basis position value) None j z is = absurd (cc)
fresh_open d cuts (how.Split front basis position value) (Some node) zero z is = cc
fresh_open d cuts (how.Split front basis position value) (Some node) (suc zero) z is = cc
fresh_open d cuts (how.Split front basis position value) (Some node) (suc (suc j)) z is = absurd (cc)
fresh_open d cuts (how.Leaf front leaf) o j z is = absurd (cc)

-- the closing leaf is the one that the node is closed by
own_leaf : (d : Decomposition) (t : State) (number : ℕ) (h : How) (front : ℕ) (leaf : Leaf) → IsClosing d t number h → h ≡ how.Leaf front leaf → ReachesBest d t leaf
own_leaf d t number h front leaf may is = reaches (subst (IsClosing d t number) is may)
  where
    reaches : IsClosing d t number (how.Leaf front leaf) → ReachesBest d t leaf
    reaches g = g.reaches

closed_reached : (d : Decomposition) (t : State) (number : ℕ) (h : How) → IsClosing d t number h → LeavesReach d t
    → (leaf : Leaf) → IsClosedBy (changed (closed_by h t.entries (length t.nodes)) t.nodes number ++ sides_opened d (length t.cuts) h (slice_get t.nodes number)) leaf → ReachesBest d t leaf
closed_reached d t number h may old leaf c = by (at_either closed more c.number c.node c.is_node)
  where
    closed : List Node
    closed = changed (closed_by h t.entries (length t.nodes)) t.nodes number

    more : List Node
    more = sides_opened d (length t.cuts) h (slice_get t.nodes number)

    here : ((x : Node) × (slice_get t.nodes c.number ≡ Some x) × ((c.node ≡ x) ⊎ ((c.number ≡ number) × (c.node ≡ closed_by h t.entries (length t.nodes) x)))) → ReachesBest d t leaf
    here (x, is, inl e) = old leaf (record { number = c.number; node = x; is_node = is; closing = c.closing; closed = ap (λ (u : Node). u.closing) (sym e) ∙ c.closed; front = c.front; by_leaf = c.by_leaf })
    here (x, is, inr e) =
        let ends : Some (record { how = h; at = t.entries; kids = length t.nodes }) ≡ Some c.closing = ap (λ (u : Node). u.closing) (sym e.1) ∙ c.closed in
        own_leaf d t number h c.front leaf may (same_how c.closing ends ∙ c.by_leaf)
      where
        same_how : (closing : Closing) → Some (record { how = h; at = t.entries; kids = length t.nodes }) ≡ Some closing → h ≡ closing.how
        same_how closing ends =
            let same : record { how = h; at = t.entries; kids = length t.nodes } ≡ closing = cc in
            ap (λ (c : Closing). c.how) same

    by : (slice_get closed c.number ≡ Some c.node) ⊎ ((j : ℕ) × (c.number ≡ length closed + j) × (slice_get more j ≡ Some c.node)) → ReachesBest d t leaf
    by (inl is) = here (at_changed (closed_by h t.entries (length t.nodes)) t.nodes number c.number c.node is)
    by (inr (j, place, is)) =
        let none : c.node.closing ≡ None = fresh_open d (length t.cuts) h (slice_get t.nodes number) j c.node is in
        let both : None ≡ Some c.closing = sym none ∙ c.closed in
        absurd (cc)

-- ---- each event
leaf_step : (d : Decomposition) (budget : ℕ) (t : State) (e : Event) → is_done t ≡ false → MayFollow d budget t e → ArePosts d t → LeavesReach d t → LeavesReach d (effect d t e)
leaf_step d budget t (event.Floor block basis cut) running may posts h = leaves_kept d t (effect d t (event.Floor block basis cut)) (steady_same t.nodes) refl (points_same t.posts) h
leaf_step d budget t (event.Ray block direction) running may posts h = leaves_kept d t (effect d t (event.Ray block direction)) (steady_same t.nodes) refl (points_same t.posts) h
leaf_step d budget t (event.Post node front point leaf) running may posts h = leaves_kept d t (effect d t (event.Post node front point leaf)) (steady_changed (posted_by (length t.posts)) t.nodes node (λ x. refl) (λ x. refl)) refl (points_with t.posts (posted_point d t.entries node front point leaf ∷ [])) h
leaf_step d budget t (event.Append post basis cut) running may posts h = leaves_kept d t (effect d t (event.Append post basis cut)) (steady_freed (slice_get t.posts post) (length t.cuts) t.nodes) refl (points_changed (ended_by t.entries) t.posts post (λ x. refl)) h
leaf_step d budget t (event.Again post basis place) running may posts h = leaves_kept d t (effect d t (event.Again post basis place)) (steady_freed (slice_get t.posts post) place t.nodes) refl (points_changed (ended_by t.entries) t.posts post (λ x. refl)) h
leaf_step d budget t (event.Fill post block y) running may posts h = leaves_kept d t (effect d t (event.Fill post block y)) (steady_same t.nodes) refl (points_changed (filled_by t.entries block y) t.posts post (λ x. refl)) h
leaf_step d budget t (event.Incumbent post) running may posts h = incumbent_reached d t post may running posts h
leaf_step d budget t (event.Close number w) running may posts h =
    λ leaf c. reach_kept d t (effect d t (event.Close number w)) leaf refl (points_ended t.entries t.posts (live_of (slice_get t.nodes number))) (closed_reached d t number w may.closing h leaf c)
leaf_step d budget t (event.Stop reason) running may posts h = leaves_kept d t (effect d t (event.Stop reason)) (steady_same t.nodes) refl (points_same t.posts) h

begins : (d : Decomposition) (root : Region) → LeavesReach d (opening root)
begins d root leaf c = absurd (nothing_closed c.number c.node c.closing c.is_node c.closed)
  where
    nothing_closed : (n : ℕ) (x : Node) (k : Closing) → slice_get (side 0 root ∷ []) n ≡ Some x → x.closing ≡ Some k → ⊥
    nothing_closed zero x k is closed =
        let same : side 0 root ≡ x = cc in
        let both : None ≡ Some k = ap (λ (u : Node). u.closing) same ∙ closed in
        absurd (cc)
    nothing_closed (suc n) x k is closed = absurd (cc)

pub leaves_are_right : LeavesAreRight
leaves_are_right d budget root es t r = histories_grow d budget root (λ es u. LeavesReach d u) (begins d root)
    (λ before u x replayed step old. leaf_step d budget u x.event step.running step.may (posts_are_right d budget root before u replayed) old) es t r
