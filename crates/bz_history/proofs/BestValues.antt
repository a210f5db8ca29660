-- The best post's value is the objective of its point: no completion costs less, since the post's own leaf bounds its node.
use Rattle.std.proofs.Common.{◌≡◌, sym, ◌∙◌, ap, subst, ℕ, List, take, arith, ℤ, pos, ◌+ℤ◌, ◌*ℤ◌, ◌≤ℤ◌, ◌<ℤ◌}
use Rattle.std.proofs.lemmas.Int.{ints}
use Rattle.std.proofs.Math.IntN.{neg_ℤ}
use Rattle.std.specs.Prelude.{if◌then◌else◌, Option, Some, None, Bool, true, false}
use Rattle.std.specs.List.{AllByRecursion, enumerate_from}
use Rattle.bz_algebra.specs.Fractions.{IsSameNumber}
use Rattle.bz_algebra.specs.Sums.{dot}
use Rattle.bz_algebra.proofs.Ring.{*ℤ_assoc, add_mul, cancel_le_left, le_antisym, mul_le_right, mul_left, mul_right, neg_mul}
use Rattle.bz_model.specs.declared.Column.{Column}
use Rattle.bz_model.specs.Decomposed.{IsDecomposed}
use Rattle.bz_model.specs.Parting.{inner_cost, integers_of, position_of}
use Rattle.bz_model.specs.PartPoints.{IsPointOf}
use Rattle.bz_model.specs.Points.{IsFeasible, coordinate, objective}
use Rattle.bz_model.specs.Splits.{Decomposition}
use Rattle.bz_model.specs.Stated.{objective_of}
use Rattle.bz_model.proofs.BoundedIntegers.{IsBoundedInMaster, integers_bounded}
use Rattle.bz_model.proofs.MeetingParts.{all_both}
use Rattle.bz_model.proofs.Numbered.{all_numbered}
use Rattle.bz_cut.specs.declared.Cut.{Cut}
use Rattle.bz_cut.specs.declared.Mode.{Mode}
use Rattle.bz_cut.specs.declared.Mode.TheVariants as mode
use Rattle.bz_cut.specs.Cuts.{IsValid}
use Rattle.bz_tree.specs.declared.Leaf.{Leaf}
use Rattle.bz_tree.specs.Boxes.{Box, LiesIn}
use Rattle.bz_tree.specs.Integers.{IntegerHolds}
use Rattle.bz_pass.proofs.Fractional.{scaled_ge, scaled_le}
use Rattle.bz_pass.proofs.LeavesHold.{leaf_bounds}
use Rattle.bz_pass.proofs.Optimality.{either}
use Rattle.bz_pass.proofs.PointsOfParts.{parts_are_feasible, parts_cost_at_most}
use Rattle.bz_event.specs.Nodes.{HasLeafOfValue, value_of}
use Rattle.bz_history.specs.declared.state.Post.{Post}
use Rattle.bz_history.specs.BestPosts.{BestPostsAreRight}
use Rattle.bz_history.specs.Finished.{parts_of}
use Rattle.bz_history.specs.Posts.{IsPostOf}
use Rattle.bz_history.specs.States.{box_of, mode_of}
use Rattle.bz_history.specs.Steps.{IsAt, IsFilled}
use Rattle.bz_history.proofs.BestSteps.{best_is_filled}
use Rattle.bz_history.proofs.CoverSteps.{all_front}
use Rattle.bz_history.proofs.FinishedSearches.{post_feasible, post_shape, post_worth}
use Rattle.bz_history.proofs.PoolSteps.{pools_are_right}
use Rattle.bz_history.proofs.PostSteps.{posts_are_right}
use Rattle.bz_history.proofs.TreeSteps.{trees_are_whole}

-- ---- the node's box
lies_at : (d : Decomposition) (box : Box) (post : Post) (p : List ℤ) (q : ℤ) (e : ℕ × (ℕ × Column)) → (pos 0) <ℤ post.point.den → IsPointOf d.model d.part (parts_of post) p q → IsBoundedInMaster d.part e.1 → IntegerHolds d.part box post.point e
    → ((coordinate box.lower e.0 *ℤ q) ≤ℤ coordinate p e.1.0) × (coordinate p e.1.0 ≤ℤ (coordinate box.upper e.0 *ℤ q))
lies_at d box post p q e den is b h = (
  scaled_ge post.point.den q (coordinate box.lower e.0) (coordinate p e.1.0) (coordinate post.point.x (position_of d.part e.1.0)) den is.positive same h.at_least,
  scaled_le post.point.den q (coordinate box.upper e.0) (coordinate p e.1.0) (coordinate post.point.x (position_of d.part e.1.0)) den is.positive same h.at_most,
)
  where
    same : coordinate p e.1.0 *ℤ post.point.den ≡ coordinate post.point.x (position_of d.part e.1.0) *ℤ q
    same = subst (λ (j : ℕ). coordinate p j *ℤ post.point.den ≡ coordinate post.point.x (position_of d.part e.1.0) *ℤ q) b.column (is.master (position_of d.part e.1.0) b.position)

-- each point of a post's parts lies in its node's box
lies_in_node : (d : Decomposition) (box : Box) (post : Post) (p : List ℤ) (q : ℤ) → IsDecomposed d.model d.part → (pos 0) <ℤ post.point.den → IsPointOf d.model d.part (parts_of post) p q → AllByRecursion (IntegerHolds d.part box post.point) (enumerate_from 0 (integers_of d.model)) → LiesIn d.model box p q
lies_in_node d box post p q dec den is h = all_both (λ e. IsBoundedInMaster d.part e.1) (IntegerHolds d.part box post.point) _ (enumerate_from 0 (integers_of d.model))
    (all_numbered (IsBoundedInMaster d.part) 0 (integers_of d.model) (integers_bounded d.model d.part dec)) h
    (λ e b i. lies_at d box post p q e den is b i)

-- ---- the value
-- value / den is bound / delta, and that is at most cost / q
bounded_by : (value den bound delta cost q : ℤ) → (pos 0) <ℤ den → (pos 0) <ℤ delta → bound *ℤ den ≡ value *ℤ delta → (bound *ℤ q) ≤ℤ (delta *ℤ cost) → (value *ℤ q) ≤ℤ (cost *ℤ den)
bounded_by value den bound delta cost q hd hl same bounds =
    let a : ((bound *ℤ q) *ℤ den) ≤ℤ ((delta *ℤ cost) *ℤ den) = mul_le_right (bound *ℤ q) (delta *ℤ cost) den (omega (arith, ints)) bounds in
    let b : (bound *ℤ q) *ℤ den ≡ (bound *ℤ den) *ℤ q = mul_right bound q den in
    let c : (bound *ℤ den) *ℤ q ≡ (value *ℤ delta) *ℤ q = ap (λ (t : ℤ). t *ℤ q) same in
    let e : (value *ℤ delta) *ℤ q ≡ (value *ℤ q) *ℤ delta = mul_right value delta q in
    let f : (delta *ℤ cost) *ℤ den ≡ delta *ℤ (cost *ℤ den) = *ℤ_assoc delta cost den in
    cancel_le_left delta (value *ℤ q) (cost *ℤ den) hl (omega (arith, ints, a, b, c, e, f))

-- a feasible point of the node's box costs no less than a post's value
no_cheaper : (d : Decomposition) (box : Box) (cuts : List Cut) (value den : ℤ) (leaf : Option Leaf) (p : List ℤ) (q : ℤ) → IsDecomposed d.model d.part → AllByRecursion (IsValid d.model d.part) cuts → (pos 0) <ℤ den
    → HasLeafOfValue d.model d.part box cuts mode.Cost value den leaf → IsFeasible d.model p q → LiesIn d.model box p q → (value *ℤ q) ≤ℤ (dot (inner_cost d.model) (coordinate p) *ℤ den)
no_cheaper d box cuts value den None p q dec valid hd h feasible lies = absurd h
no_cheaper d box cuts value den (Some leaf) p q dec valid hd h feasible lies =
    bounded_by value den leaf.bound leaf.delta (dot (inner_cost d.model) (coordinate p)) q hd h.delta h.bound
    (leaf_bounds d.model d.part box cuts leaf p q dec valid h.holds feasible lies)

-- ---- the objective
-- (a + k q) / (s q) is (v + k d) / (s d) where a / q is v / d
shifted : (a v k s q d : ℤ) → a *ℤ d ≡ v *ℤ q → (a +ℤ (k *ℤ q)) *ℤ (s *ℤ d) ≡ (v +ℤ (k *ℤ d)) *ℤ (s *ℤ q)
shifted a v k s q d e =
    mul_left (a +ℤ (k *ℤ q)) s d
    ∙ ap (λ (t : ℤ). s *ℤ t) (add_mul a (k *ℤ q) d ∙ omega (arith, ints, e, mul_right k q d, add_mul v (k *ℤ d) q) ∙ sym (add_mul v (k *ℤ d) q))
    ∙ sym (mul_left (v +ℤ (k *ℤ d)) s q)

turned : (maximise : Bool) (d a k s q v inner : ℤ) → inner ≡ (if maximise then neg_ℤ a else a) → inner *ℤ d ≡ v *ℤ q → (a +ℤ (k *ℤ q)) *ℤ (s *ℤ d) ≡ ((if maximise then neg_ℤ v else v) +ℤ (k *ℤ d)) *ℤ (s *ℤ q)
turned true d a k s q v inner is e = shifted a (neg_ℤ v) k s q d (omega (arith, ints, neg_mul a d, neg_mul v q, e, ap (λ (t : ℤ). t *ℤ d) is))
turned false d a k s q v inner is e = shifted a v k s q d (ap (λ (t : ℤ). t *ℤ d) (sym is) ∙ e)

-- ---- all histories
pub best_posts_are_right : BestPostsAreRight
best_posts_are_right d budget root es t dec r i is = (b.0, b.1, record { filled = b.2; shape = post_shape d (mode_of t) t.nodes b.0 t.cuts h b.2; feasible = feasible; value = value })
  where
    b : (post : Post) × IsAt t.posts i post × IsFilled post
    b = best_is_filled d budget root es t r i is

    h : IsPostOf d (mode_of t) t.nodes t.cuts b.0
    h = posts_are_right d budget root es t r i b.0 b.1

    feasible : (p : List ℤ) (q : ℤ) → IsPointOf d.model d.part (parts_of b.0) p q → IsFeasible d.model p q
    feasible p q point = parts_are_feasible d.model d.part (parts_of b.0) p q dec (post_feasible d root (mode_of t) t b.0 (trees_are_whole d budget root es t r) r.root_is.is_root h b.2) point

    value : mode_of t ≡ mode.Cost → (p : List ℤ) (q : ℤ) → IsPointOf d.model d.part (parts_of b.0) p q → IsSameNumber (objective d.model p q) (objective_of d.model (value_of d.model d.part b.0.point) b.0.point.den)
    value cost p q point =
        let own : IsPostOf d mode.Cost t.nodes t.cuts b.0 = subst (λ (w : Mode). IsPostOf d w t.nodes t.cuts b.0) cost h in
        let most : (dot (inner_cost d.model) (coordinate p) *ℤ b.0.point.den) ≤ℤ (value_of d.model d.part b.0.point *ℤ q) = parts_cost_at_most d.model d.part (parts_of b.0) (value_of d.model d.part b.0.point) p q dec (post_worth d t b.0 own b.2) point in
        let least : (value_of d.model d.part b.0.point *ℤ q) ≤ℤ (dot (inner_cost d.model) (coordinate p) *ℤ b.0.point.den) =
        no_cheaper d (box_of own.node.region) (take b.0.front t.cuts) (value_of d.model d.part b.0.point) b.0.point.den b.0.leaf p q dec
        (all_front (IsValid d.model d.part) b.0.front t.cuts (pools_are_right d budget root es t r).valid) own.posted.shape.den own.posted.leaf_is (feasible p q point)
        (lies_in_node d (box_of own.node.region) b.0 p q dec own.posted.shape.den point own.posted.integers) in
        turned d.model.maximise b.0.point.den (dot d.model.cost (coordinate p)) d.model.constant d.model.scale q (value_of d.model d.part b.0.point) (dot (inner_cost d.model) (coordinate p))
        (either d.model.maximise d.model.cost (coordinate p)) (le_antisym (dot (inner_cost d.model) (coordinate p) *ℤ b.0.point.den) (value_of d.model d.part b.0.point *ℤ q) most least)
