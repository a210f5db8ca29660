-- A leaf that holds bounds the inner cost of each feasible point of its box from below, and an empty one's box has none.
use Rattle.std.specs.Prelude.{ℕ, suc, ◌-◌, ◌<◌, ◌≤◌, ◌≡◌, ℤ, pos, negsuc, ◌+ℤ◌, ◌*ℤ◌, ◌≤ℤ◌, ◌<ℤ◌, neg_ℤ, List, [], ◌++◌, map}
use Rattle.std.specs.List.{AllByRecursion, enumerate_from, flat_map}
use Rattle.std.proofs.Common.{ap, ◌∙◌, arith}
use Rattle.std.proofs.Math.IntN.{*ℤ_comm}
use Rattle.std.proofs.lemmas.Int.{ints, by_lt_z}
use Rattle.bz_algebra.specs.Sums.{dot, coef, upto}
use Rattle.bz_algebra.proofs.Ring.{*ℤ_assoc, neg_mul, mul_positive, mul_right, mul_le_right, cancel_le_left, le_antisym, zero_mul}
use Rattle.bz_algebra.proofs.SumLemmas.{upto_scale}
use Rattle.bz_model.specs.declared.Column.{Column}
use Rattle.bz_model.specs.declared.Ineq.{Ineq}
use Rattle.bz_model.specs.declared.Model.{Model}
use Rattle.bz_model.specs.Meeting.{MeetsAllParts}
use Rattle.bz_model.specs.Parting.{blocks_of, width_of, terms_in, inequalities_of, integers_of, inner_cost}
use Rattle.bz_model.specs.Points.{coordinate, IsFeasible}
use Rattle.bz_model.proofs.Inequalities.{master_has_own_alone}
use Rattle.bz_model.proofs.MeetingParts.{all_append, all_both, all_then, all_flat}
use Rattle.bz_model.proofs.PartSums.{at_part}
use Rattle.bz_cut.specs.declared.Cut.{Cut}
use Rattle.bz_tree.specs.declared.Leaf.{Leaf}
use Rattle.bz_tree.specs.Boxes.{Box, LiesIn}
use Rattle.bz_cut.specs.Cuts.{IsValid}
use Rattle.bz_tree.specs.Leaves.{LeafHolds, sides_of, side_of_master, sides_of_box, side_of_cut}
use Rattle.bz_model.specs.Decomposed.{IsDecomposed}
use Rattle.bz_pass.proofs.CutsHold.{meets, cost_of_part, cost_by_parts, part_fits, cut_holds}
use Rattle.bz_model.proofs.InnerCosts.{cost_terms_within}
use Rattle.bz_pass.proofs.Fractional.{turned}
use Rattle.bz_model.proofs.BoundedIntegers.{IsBoundedInMaster, integers_bounded}
use Rattle.bz_model.proofs.Numbered.{all_mapped, all_numbered}
use Rattle.bz_pass.proofs.Sides.{FitsIn, HoldsAt, sum_holds, upto_multiple_neg}

-- the leaf holds over the box, and is empty or has a bound that is no less than value / den
pub record LeafPasses (m : Model) (part : List ℕ) (box : Box) (cuts : List Cut) (value den : ℤ) (leaf : Leaf) : Type 0 where
  pub holds : LeafHolds m part box cuts leaf
  pub bound : pos 0 <ℤ leaf.delta → (value *ℤ leaf.delta) ≤ℤ (leaf.bound *ℤ den)

-- ---- one side
alone : (i : Ineq) (x y : ℕ → ℤ) (q : ℤ) → i.master ≡ [] → (dot i.own y +ℤ dot i.master y) ≤ℤ (i.rhs *ℤ q) → HoldsAt x y q (side_of_master i)
alone i x y q e h = omega (arith, ints, h, ap (λ (es : List (ℕ × ℤ)). dot es y) e)

upper_side : (v u q : ℤ) → v ≤ℤ (u *ℤ q) → (pos 0 +ℤ ((pos 1 *ℤ v) +ℤ pos 0)) ≤ℤ (u *ℤ q)
upper_side v u q h = omega (arith, ints)

lower_side : (v l q : ℤ) → (l *ℤ q) ≤ℤ v → (pos 0 +ℤ ((negsuc 0 *ℤ v) +ℤ pos 0)) ≤ℤ (neg_ℤ l *ℤ q)
lower_side v l q h = rw (neg_mul l q) (omega (arith, ints))

cut_side : (n a e r : ℤ) → ((n *ℤ e) +ℤ a) ≤ℤ r → (((n *ℤ e) +ℤ pos 0) +ℤ a) ≤ℤ r
cut_side n a e r h = omega (arith, ints)

module _ (m : Model) (part : List ℕ) (box : Box) (cuts : List Cut) (d : IsDecomposed m part) (valid : AllByRecursion (IsValid m part) cuts) where
  abbrev InSides : Ineq → Type 0
  InSides i = FitsIn (blocks_of part) (width_of part 0) i

  -- ---- the sides speak of the blocks' etas and of the master's positions
  sides_fit : AllByRecursion InSides (sides_of m part box cuts)
  sides_fit = all_append InSides (map side_of_master (inequalities_of m part 0) ++ flat_map (sides_of_box part box) (enumerate_from 0 (integers_of m))) (map side_of_cut cuts)
      (all_append InSides (map side_of_master (inequalities_of m part 0)) (flat_map (sides_of_box part box) (enumerate_from 0 (integers_of m)))
      (all_mapped InSides side_of_master (inequalities_of m part 0) (all_then (FitsIn (width_of part 0) (width_of part 0)) _ (inequalities_of m part 0) (part_fits m part 0 d) (λ i f. record { own = tt; master = f.own })))
      (all_flat InSides (sides_of_box part box) (enumerate_from 0 (integers_of m)) (all_then (λ e. IsBoundedInMaster part e.1) _ (enumerate_from 0 (integers_of m)) (all_numbered (IsBoundedInMaster part) 0 (integers_of m) (integers_bounded m part d)) (λ e b. (record { own = tt; master = (b.position, tt) }, (record { own = tt; master = (b.position, tt) }, tt))))))
      (all_mapped InSides side_of_cut cuts (all_then (IsValid m part) _ cuts valid (λ cut v. let l : 0 < cut.block = v.block.0 in let u : cut.block ≤ blocks_of part = v.block.1 in record { own = (omega arith, tt); master = v.alpha })))

  -- ---- and hold at each point of the box
  module _ (p : List ℤ) (q : ℤ) (f : MeetsAllParts m part p q) (lies : LiesIn m box p q) where
    abbrev etas : ℕ → ℤ
    etas k = cost_of_part m part p (suc k)

    abbrev place : ℕ → ℤ
    place k = at_part part 0 (coordinate p) k

    abbrev Here : Ineq → Type 0
    Here i = HoldsAt etas place q i

    box_sides : (e : ℕ × (ℕ × Column)) → IsBoundedInMaster part e.1 → (coordinate box.lower e.0 *ℤ q) ≤ℤ coordinate p e.1.0 → coordinate p e.1.0 ≤ℤ (coordinate box.upper e.0 *ℤ q) → AllByRecursion Here (sides_of_box part box e)
    box_sides e b l u = (rw b.column (upper_side (coordinate p e.1.0) (coordinate box.upper e.0) q u), (rw b.column (lower_side (coordinate p e.1.0) (coordinate box.lower e.0) q l), tt))

    cut_here : (cut : Cut) → IsValid m part cut → Here (side_of_cut cut)
    cut_here cut v =
        let l : 0 < cut.block = v.block.0 in
        let e : suc (cut.block - 1) ≡ cut.block = omega arith in
        rw e (cut_side (neg_ℤ cut.p0) (dot cut.alpha place) (cost_of_part m part p cut.block) (cut.beta *ℤ q) (cut_holds m part cut p q d v f))

    sides_hold : AllByRecursion Here (sides_of m part box cuts)
    sides_hold = all_append Here (map side_of_master (inequalities_of m part 0) ++ flat_map (sides_of_box part box) (enumerate_from 0 (integers_of m))) (map side_of_cut cuts)
        (all_append Here (map side_of_master (inequalities_of m part 0)) (flat_map (sides_of_box part box) (enumerate_from 0 (integers_of m)))
        (all_mapped Here side_of_master (inequalities_of m part 0) (all_both (λ i. i.master ≡ []) (λ i. HoldsAt place place q i) _ (inequalities_of m part 0) (master_has_own_alone m part) (f.inequalities 0 (omega arith)) (λ i e h. alone i etas place q e h)))
        (all_flat Here (sides_of_box part box) (enumerate_from 0 (integers_of m)) (all_both (λ e. IsBoundedInMaster part e.1) _ _ (enumerate_from 0 (integers_of m)) (all_numbered (IsBoundedInMaster part) 0 (integers_of m) (integers_bounded m part d)) lies (λ e b l. box_sides e b l.0 l.1))))
        (all_mapped Here side_of_cut cuts (all_then (IsValid m part) _ cuts valid (λ cut v. cut_here cut v)))

    leaf_at : (leaf : Leaf) → LeafHolds m part box cuts leaf → (leaf.bound *ℤ q) ≤ℤ (leaf.delta *ℤ dot (inner_cost m) (coordinate p))
    leaf_at leaf h =
        turned leaf.delta leaf.bound q (cost_of_part m part p 0) (upto (blocks_of part) etas) (dot (inner_cost m) (coordinate p)) (cost_by_parts m part p d)
        (rw (← own_sum, ← master_sum)
        (sum_holds (blocks_of part) (width_of part 0) (sides_of m part box cuts) leaf.lambda etas place
        (λ b. neg_ℤ leaf.delta)
        (λ i. neg_ℤ (leaf.delta *ℤ coef (terms_in part 0 (inner_cost m)) i))
        q (neg_ℤ leaf.bound) sides_fit sides_hold h.lambda h.etas h.master h.rhs))
      where
        own_sum : upto (blocks_of part) (λ b. neg_ℤ leaf.delta *ℤ etas b) ≡ neg_ℤ leaf.delta *ℤ upto (blocks_of part) etas
        own_sum = upto_scale (blocks_of part) (neg_ℤ leaf.delta) etas

        master_sum : upto (width_of part 0) (λ i. neg_ℤ (leaf.delta *ℤ coef (terms_in part 0 (inner_cost m)) i) *ℤ place i) ≡ neg_ℤ (leaf.delta *ℤ cost_of_part m part p 0)
        master_sum = upto_multiple_neg (width_of part 0) leaf.delta (terms_in part 0 (inner_cost m)) place (cost_terms_within m part 0 d)

-- bound <= delta times the inner cost, at each feasible point of the box
pub leaf_bounds : (m : Model) (part : List ℕ) (box : Box) (cuts : List Cut) (leaf : Leaf) (p : List ℤ) (q : ℤ) → IsDecomposed m part → AllByRecursion (IsValid m part) cuts → LeafHolds m part box cuts leaf → IsFeasible m p q → LiesIn m box p q → (leaf.bound *ℤ q) ≤ℤ (leaf.delta *ℤ dot (inner_cost m) (coordinate p))
leaf_bounds m part box cuts leaf p q d v h f l = leaf_at m part box cuts d v p q (meets m part p q d f) l leaf h

-- no feasible point is in the box of an empty leaf
pub leaf_empties : (m : Model) (part : List ℕ) (box : Box) (cuts : List Cut) (leaf : Leaf) (p : List ℤ) (q : ℤ) → IsDecomposed m part → AllByRecursion (IsValid m part) cuts → LeafHolds m part box cuts leaf → leaf.delta ≡ pos 0 → IsFeasible m p q → LiesIn m box p q → ⊥
leaf_empties m part box cuts leaf p q d v h z f l =
    let a : (leaf.bound *ℤ q) ≤ℤ (leaf.delta *ℤ dot (inner_cost m) (coordinate p)) = leaf_bounds m part box cuts leaf p q d v h f l in
    let b : (pos 0) <ℤ (leaf.bound *ℤ q) = mul_positive leaf.bound q (h.empty z) f.positive in
    let c : leaf.delta *ℤ dot (inner_cost m) (coordinate p) ≡ pos 0 = ap (λ (t : ℤ). t *ℤ dot (inner_cost m) (coordinate p)) z ∙ zero_mul (dot (inner_cost m) (coordinate p)) in
    omega (arith, ints, a, b, c)

-- value / den is at most bound / delta, and bound / delta at most inner / q
chained : (value den bound delta inner q : ℤ) → (pos 0) <ℤ den → (pos 0) <ℤ delta → (pos 0) <ℤ q → (value *ℤ delta) ≤ℤ (bound *ℤ den) → (bound *ℤ q) ≤ℤ (delta *ℤ inner) → (value *ℤ q) ≤ℤ (inner *ℤ den)
chained value den bound delta inner q hd hl hq h g = cancel_le_left delta (value *ℤ q) (inner *ℤ den) hl
    (omega (
      arith,
      ints,
      mul_le_right (value *ℤ delta) (bound *ℤ den) q (omega (arith, ints)) h,
      mul_le_right (bound *ℤ q) (delta *ℤ inner) den (omega (arith, ints)) g,
      mul_right value delta q,
      *ℤ_comm (value *ℤ q) delta,
      mul_right bound den q,
      *ℤ_assoc delta inner den,
    ))

-- no feasible point of the box has an inner cost below value / den
pub passing_leaf_bounds : (m : Model) (part : List ℕ) (box : Box) (cuts : List Cut) (value den : ℤ) (leaf : Leaf) (p : List ℤ) (q : ℤ) → IsDecomposed m part → AllByRecursion (IsValid m part) cuts → (pos 0) <ℤ den → LeafPasses m part box cuts value den leaf → IsFeasible m p q → LiesIn m box p q → (value *ℤ q) ≤ℤ (dot (inner_cost m) (coordinate p) *ℤ den)
passing_leaf_bounds m part box cuts value den leaf p q d v hd s f lies = by_lt_z (pos 0) leaf.delta
    (λ l. chained value den leaf.bound leaf.delta (dot (inner_cost m) (coordinate p)) q hd l f.positive (s.bound l) (leaf_bounds m part box cuts leaf p q d v s.holds f lies))
    (λ l. absurd (leaf_empties m part box cuts leaf p q d v s.holds (le_antisym leaf.delta (pos 0) l s.holds.delta) f lies))
