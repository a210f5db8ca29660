-- The best post so far, as the entries ask for it.
use Rattle.std.proofs.Common.{◌≡◌, true, false, refl, sym, ◌∙◌, ap, subst, ℕ, List, inr, arith}
use Rattle.std.proofs.lemmas.Int.{ints}
use Rattle.std.specs.Prelude.{Option, Some, None, Bool, not, int_le, ℤ, pos, ◌*ℤ◌, ◌≤ℤ◌, ◌<ℤ◌}
use Rattle.bz_algebra.proofs.Ring.{cancel_le_right, cancel_lt_right, mul_le_right, mul_lt_right, mul_right}
use Rattle.bz_model.specs.declared.Master.{Master}
use Rattle.bz_model.specs.Splits.{Decomposition}
use Rattle.bz_cut.specs.declared.Mode.{Mode}
use Rattle.bz_cut.specs.declared.Mode.TheVariants as mode
use Rattle.bz_tree.specs.declared.Leaf.{Leaf}
use Rattle.bz_event.specs.Nodes.{value_of}
use Rattle.bz_history.specs.declared.state.Post.{Post}
use Rattle.bz_history.specs.Finished.{BestIsFilled}
use Rattle.bz_history.specs.States.{State}
use Rattle.bz_history.specs.Steps.{IsAt, IsBelow, IsBest, IsBetter, IsFilled, ReachesBest}
use Rattle.bz_history.proofs.CoverSteps.{ArePointsKept}
use Rattle.bz_history.proofs.Lists.{at_one}
use Rattle.bz_rules.specs.Entries.{best_post, is_below, is_better, is_reached, post_of}

-- ---- numbers
pub at_most_true : (a b : ℤ) → int_le a b ≡ true → a ≤ℤ b
at_most_true a b h = grind (arith, ints)

pub above_false : (a b : ℤ) → int_le a b ≡ false → b <ℤ a
above_false a b h = grind (arith, ints)

-- a value that a bound equals is below another that the bound doesn't reach
pub below_unreached : (value den bound delta other other_den : ℤ) → (pos 0) <ℤ delta → (pos 0) <ℤ den → bound *ℤ den ≡ value *ℤ delta
    → (bound *ℤ other_den) <ℤ (other *ℤ delta) → IsBelow value den other other_den
below_unreached value den bound delta other other_den hdelta hden same unreached =
    let a : ((bound *ℤ other_den) *ℤ den) <ℤ ((other *ℤ delta) *ℤ den) = mul_lt_right (bound *ℤ other_den) (other *ℤ delta) den hden unreached in
    let b : (bound *ℤ other_den) *ℤ den ≡ (bound *ℤ den) *ℤ other_den = mul_right bound other_den den in
    let c : (bound *ℤ den) *ℤ other_den ≡ (value *ℤ delta) *ℤ other_den = ap (λ (z : ℤ). z *ℤ other_den) same in
    let e : (value *ℤ delta) *ℤ other_den ≡ (value *ℤ other_den) *ℤ delta = mul_right value delta other_den in
    let f : (other *ℤ delta) *ℤ den ≡ (other *ℤ den) *ℤ delta = mul_right other delta den in
    cancel_lt_right (value *ℤ other_den) (other *ℤ den) delta (omega (arith, ints, hdelta)) (omega (arith, ints, a, b, c, e, f))

-- a bound that equals a value reaches what the value doesn't pass
pub reached_by_value : (value den bound delta other other_den : ℤ) → (pos 0) <ℤ delta → (pos 0) <ℤ den → bound *ℤ den ≡ value *ℤ delta
    → (other *ℤ den) ≤ℤ (value *ℤ other_den) → (other *ℤ delta) ≤ℤ (bound *ℤ other_den)
reached_by_value value den bound delta other other_den hdelta hden same reach =
    let a : ((other *ℤ den) *ℤ delta) ≤ℤ ((value *ℤ other_den) *ℤ delta) = mul_le_right (other *ℤ den) (value *ℤ other_den) delta (omega (arith, ints, hdelta)) reach in
    let b : (bound *ℤ other_den) *ℤ den ≡ (bound *ℤ den) *ℤ other_den = mul_right bound other_den den in
    let c : (bound *ℤ den) *ℤ other_den ≡ (value *ℤ delta) *ℤ other_den = ap (λ (z : ℤ). z *ℤ other_den) same in
    let e : (value *ℤ delta) *ℤ other_den ≡ (value *ℤ other_den) *ℤ delta = mul_right value delta other_den in
    let f : (other *ℤ delta) *ℤ den ≡ (other *ℤ den) *ℤ delta = mul_right other delta den in
    cancel_le_right (other *ℤ delta) (bound *ℤ other_den) den hden (omega (arith, ints, a, b, c, e, f))

-- ---- the best post
pub best_is : (t : State) (best : Post) → IsBest t best → best_post t ≡ Some best
best_is t best (i, is, at) = ap (post_of t.posts) is ∙ at

named : (posts : List Post) (o : Option ℕ) (best : Post) → post_of posts o ≡ Some best → (i : ℕ) × (o ≡ Some i) × IsAt posts i best
named posts None best h = absurd (cc)
named posts (Some i) best h = (i, refl, h)

pub is_best : (t : State) (best : Post) → best_post t ≡ Some best → IsBest t best
is_best t best h = named t.posts t.best best h

-- a leaf that is found to reach the best post does
pub reaches_found : (d : Decomposition) (t : State) (leaf : Leaf) → (pos 0) <ℤ leaf.delta → is_reached d leaf (best_post t) ≡ true → ReachesBest d t leaf
reaches_found d t leaf delta h = by (best_post t) refl h
  where
    by : (o : Option Post) → best_post t ≡ o → is_reached d leaf o ≡ true → ReachesBest d t leaf
    by None is h = absurd (cc)
    by (Some best) is h = inr (best, is_best t best is, delta, at_most_true _ _ h)

-- and where it is not found to, the value that its bound states is below that of the best post
pub better_found : (d : Decomposition) (t : State) (leaf : Leaf) (value den : ℤ) → (pos 0) <ℤ leaf.delta → (pos 0) <ℤ den → leaf.bound *ℤ den ≡ value *ℤ leaf.delta
    → is_reached d leaf (best_post t) ≡ false → (best : Post) → IsBest t best → IsBelow value den (value_of d.model d.part best.point) best.point.den
better_found d t leaf value den delta hden same h best is =
    let there : is_reached d leaf (Some best) ≡ false = subst (λ (o : Option Post). is_reached d leaf o ≡ false) (best_is t best is) h in
    below_unreached value den leaf.bound leaf.delta (value_of d.model d.part best.point) best.point.den delta hden same (above_false _ _ there)

-- ---- the best post later
-- the best post that was there before an event is the one after it
pub best_before : (t u : State) → BestIsFilled t → u.best ≡ t.best → ArePointsKept t.posts u.posts → (best : Post) → IsBest u best → (x : Post) × IsBest t x × (best.point ≡ x.point)
best_before t u filled same kept best (i, is, at) =
    let own : t.best ≡ Some i = sym same ∙ is in
    let x : (post : Post) × IsAt t.posts i post × IsFilled post = filled i own in
    let y : (z : Post) × IsAt u.posts i z × (z.point ≡ x.0.point) = kept i x.0 x.1 in
    (x.0, (i, own, x.1), ap (λ (z : Post). z.point) (at_one u.posts i best y.0 at y.1) ∙ y.2)

best_after : (t u : State) → u.best ≡ t.best → ArePointsKept t.posts u.posts → (x : Post) → IsBest t x → (best : Post) × IsBest u best × (best.point ≡ x.point)
best_after t u same kept x (i, is, at) =
    let y : (z : Post) × IsAt u.posts i z × (z.point ≡ x.point) = kept i x at in
    (y.0, (i, same ∙ is, y.1), y.2)

not_true : (b : Bool) → not b ≡ true → b ≡ false
not_true false h = refl
not_true true h = absurd (cc)

not_false : (b : Bool) → not b ≡ false → b ≡ true
not_false true h = refl
not_false false h = absurd (cc)

-- a point that is found to be better is
pub better_later : (d : Decomposition) (t u : State) (way : Mode) (point : Master) → BestIsFilled t → u.best ≡ t.best → ArePointsKept t.posts u.posts
    → is_better d t way point ≡ true → IsBetter d u way (value_of d.model d.part point) point.den
better_later d t u mode.Point point filled same kept h = tt
better_later d t u mode.Cost point filled same kept h = λ best is.
    let x : (z : Post) × IsBest t z × (best.point ≡ z.point) = best_before t u filled same kept best is in
    let there : is_below d point (Some x.0) ≡ true = subst (λ (o : Option Post). is_below d point o ≡ true) (best_is t x.0 x.1) h in
    let below : IsBelow (value_of d.model d.part point) point.den (value_of d.model d.part x.0.point) x.0.point.den = above_false _ _ (not_true _ there) in
    subst (λ (p : Master). IsBelow (value_of d.model d.part point) point.den (value_of d.model d.part p) p.den) (sym x.2) below

-- what is known where a point is not found to be better
pub record HasBetter (d : Decomposition) (u : State) (point : Master) : Type 0 where
  pub best : Post
  pub is_best : IsBest u best
  pub at_most : (value_of d.model d.part best.point *ℤ point.den) ≤ℤ (value_of d.model d.part point *ℤ best.point.den)

pub better_there : (d : Decomposition) (t u : State) (way : Mode) (point : Master) → u.best ≡ t.best → ArePointsKept t.posts u.posts
    → is_better d t way point ≡ false → HasBetter d u point
better_there d t u mode.Point point same kept h = absurd (cc)
better_there d t u mode.Cost point same kept h = by (best_post t) refl h
  where
    by : (o : Option Post) → best_post t ≡ o → is_below d point o ≡ false → HasBetter d u point
    by None is h = absurd (cc)
    by (Some x) is h =
        let y : (best : Post) × IsBest u best × (best.point ≡ x.point) = best_after t u same kept x (is_best t x is) in
        let below : (value_of d.model d.part x.point *ℤ point.den) ≤ℤ (value_of d.model d.part point *ℤ x.point.den) = at_most_true _ _ (not_false _ h) in
        record {
          best = y.0;
          is_best = y.1;
          at_most = subst (λ (p : Master). (value_of d.model d.part p *ℤ point.den) ≤ℤ (value_of d.model d.part point *ℤ p.den)) (sym y.2) below;
        }
