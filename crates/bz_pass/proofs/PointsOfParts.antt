-- The point of parts that keep the model is feasible, and with etas that are no less than the blocks' costs its inner cost
-- is at most the value. So it is with a passing certificate's parts.
use Rattle.std.specs.Prelude.{ℕ, zero, suc, ◌<◌, ◌≤◌, ◌≡◌, ℤ, pos, ◌+ℤ◌, ◌*ℤ◌, ◌≤ℤ◌, ◌<ℤ◌, List, []}
use Rattle.std.specs.List.{AllByRecursion, enumerate_from}
use Rattle.std.proofs.Common.{ap, subst, ◌∙◌, arith}
use Rattle.std.proofs.lemmas.Int.{ints}
use Rattle.bz_algebra.specs.Sums.{dot, upto, AllBelow}
use Rattle.bz_algebra.proofs.Ring.{*ℤ_assoc, add_mul}
use Rattle.bz_algebra.proofs.SumLemmas.{upto_le, upto_scale_right}
use Rattle.bz_model.specs.declared.BlockPart.{BlockPart}
use Rattle.bz_model.specs.declared.Column.{Column}
use Rattle.bz_model.specs.declared.Ineq.{Ineq}
use Rattle.bz_model.specs.declared.Master.{Master}
use Rattle.bz_model.specs.declared.Model.{Model}
use Rattle.bz_model.specs.declared.Parts.{Parts}
use Rattle.bz_model.specs.Meeting.{MeetsAllParts}
use Rattle.bz_model.specs.Parting.{blocks_of, width_of, column_at, position_of, terms_in, inequalities_of, integers_of, inner_cost, IneqHolds}
use Rattle.bz_model.specs.Points.{coordinate, IsFeasible, IsWithinBounds, IsWhole}
use Rattle.bz_model.proofs.Inequalities.{master_has_own_alone}
use Rattle.bz_model.proofs.MeetingParts.{all_both, all_then}
use Rattle.bz_model.proofs.PartSums.{at_part}
use Rattle.bz_tree.specs.Boxes.{Box, IsRootBox}
use Rattle.bz_model.specs.PartPoints.{eta_of, total, HasShape, HoldsInMaster, HoldsInBlock, IsPointOf}
use Rattle.bz_tree.specs.Integers.{IntegerHolds}
use Rattle.bz_model.specs.Decomposed.{IsDecomposed}
use Rattle.bz_pass.proofs.CutsHold.{feasible, cost_of_part, cost_by_parts, part_fits}
use Rattle.bz_model.proofs.InnerCosts.{cost_terms_within}
use Rattle.bz_pass.proofs.Fractional.{scaled_le, scaled_ge, scaled_whole, scaled_sum, within_ceiling, within_floor}
use Rattle.bz_model.proofs.BoundedIntegers.{IsBoundedInMaster, integers_bounded}
use Rattle.bz_model.proofs.Numbered.{all_numbered, all_from_numbered, each_number, total_upto}
use Rattle.bz_pass.proofs.Sides.{FitsIn, dot_scaled}

-- the parts keep the model's inequalities, bounds and integer columns; nothing is said of their etas
pub record AreFeasible (m : Model) (part : List ℕ) (parts : Parts) : Type 0 where
  pub shape : HasShape m part parts
  pub master : AllByRecursion (HoldsInMaster parts.master) (inequalities_of m part 0)
  pub root : Box
  pub is_root : IsRootBox m root
  pub integers : AllByRecursion (IntegerHolds part root parts.master) (enumerate_from 0 (integers_of m))
  pub rows : AllByRecursion (λ e. AllByRecursion (HoldsInBlock parts.master e.1) (inequalities_of m part e.0)) (enumerate_from 1 parts.blocks)

-- the etas are no less than the blocks' costs, and the value is the master's cost with the etas
pub record AreWorth (m : Model) (part : List ℕ) (parts : Parts) (v : ℤ) : Type 0 where
  pub shape : HasShape m part parts
  pub costs : AllByRecursion (λ e. dot (terms_in part e.0 (inner_cost m)) (coordinate e.1.y) ≤ℤ (eta_of parts.master e.0 *ℤ e.1.times)) (enumerate_from 1 parts.blocks)
  pub value : v ≡ dot (terms_in part 0 (inner_cost m)) (coordinate parts.master.x) +ℤ total parts.master.eta

-- what is known of a block of the parts
record IsBlockAt (m : Model) (part : List ℕ) (master : Master) (p : List ℤ) (q : ℤ) (e : ℕ × BlockPart) : Type 0 where
  positive : pos 0 <ℤ e.1.times
  rows : AllByRecursion (HoldsInBlock master e.1) (inequalities_of m part e.0)
  point : (i : ℕ) → i < width_of part e.0 → coordinate p (column_at part e.0 i) *ℤ (master.den *ℤ e.1.times) ≡ coordinate e.1.y i *ℤ q

-- what is known of the cost of a block of the parts
record IsCostAt (m : Model) (part : List ℕ) (master : Master) (p : List ℤ) (q : ℤ) (e : ℕ × BlockPart) : Type 0 where
  positive : pos 0 <ℤ e.1.times
  cost : dot (terms_in part e.0 (inner_cost m)) (coordinate e.1.y) ≤ℤ (eta_of master e.0 *ℤ e.1.times)
  point : (i : ℕ) → i < width_of part e.0 → coordinate p (column_at part e.0 i) *ℤ (master.den *ℤ e.1.times) ≡ coordinate e.1.y i *ℤ q

-- what is known of an integer column in the parts
record IsIntegerIn (part : List ℕ) (box : Box) (master : Master) (e : ℕ × (ℕ × Column)) : Type 0 where
  in_master : IsBoundedInMaster part e.1
  holds : IntegerHolds part box master e

-- c0 / q is v0 / d and cs / q is at most s / d: so is their sum
sum_at_most : (d q c0 cs v0 s c v : ℤ) → c ≡ c0 +ℤ cs → v ≡ v0 +ℤ s → c0 *ℤ d ≡ v0 *ℤ q → (cs *ℤ d) ≤ℤ (s *ℤ q) → (c *ℤ d) ≤ℤ (v *ℤ q)
sum_at_most d q c0 cs v0 s c v ec ev e h = rw (ec, ev) (omega (arith, ints, e, h, add_mul c0 cs d, add_mul v0 s q))

module _ (m : Model) (part : List ℕ) (parts : Parts) (p : List ℤ) (q : ℤ) (d : IsDecomposed m part) (s : AreFeasible m part parts) (r : IsPointOf m part parts p q) where
  abbrev den : ℤ
  den = parts.master.den

  -- ---- the master
  own_alone : (i : Ineq) → i.master ≡ [] → AllBelow (width_of part 0) i.own → HoldsInMaster parts.master i → IneqHolds part 0 p q i
  own_alone i e w h =
      let scaled : dot i.own (at_part part 0 (coordinate p)) *ℤ den ≡ dot i.own (coordinate parts.master.x) *ℤ q = dot_scaled (width_of part 0) i.own (at_part part 0 (coordinate p)) (coordinate parts.master.x) den q w r.master in
      let at_most : (dot i.own (at_part part 0 (coordinate p))) ≤ℤ (i.rhs *ℤ q) = scaled_le den q i.rhs _ (dot i.own (coordinate parts.master.x)) s.shape.point.master.den r.positive scaled h in
      omega (arith, ints, at_most, ap (λ (es : List (ℕ × ℤ)). dot es (at_part part 0 (coordinate p))) e)

  master_meets : AllByRecursion (IneqHolds part 0 p q) (inequalities_of m part 0)
  master_meets = all_both (λ i. i.master ≡ []) (λ i. AllBelow (width_of part 0) i.own × HoldsInMaster parts.master i) (IneqHolds part 0 p q) (inequalities_of m part 0)
      (master_has_own_alone m part)
      (all_both (FitsIn (width_of part 0) (width_of part 0)) (HoldsInMaster parts.master) (λ i. AllBelow (width_of part 0) i.own × HoldsInMaster parts.master i) (inequalities_of m part 0) (part_fits m part 0 d) s.master (λ i f h. (f.own, h)))
      (λ i e h. own_alone i e h.0 h.1)

  -- ---- the integer columns
  integers_in : AllByRecursion (IsIntegerIn part s.root parts.master) (enumerate_from 0 (integers_of m))
  integers_in = all_both (λ e. IsBoundedInMaster part e.1) (IntegerHolds part s.root parts.master) _ (enumerate_from 0 (integers_of m))
      (all_numbered (IsBoundedInMaster part) 0 (integers_of m) (integers_bounded m part d))
      s.integers
      (λ e b h. record { in_master = b; holds = h })

  at_column : (e : ℕ × Column) → IsBoundedInMaster part e → coordinate p e.0 *ℤ den ≡ coordinate parts.master.x (position_of part e.0) *ℤ q
  at_column e b = subst (λ (j : ℕ). coordinate p j *ℤ den ≡ coordinate parts.master.x (position_of part e.0) *ℤ q) b.column (r.master (position_of part e.0) b.position)

  bounds_meet : AllByRecursion (λ e. IsWithinBounds e.1.lower e.1.upper (coordinate p e.0) q) (integers_of m)
  bounds_meet = all_from_numbered (λ e. IsWithinBounds e.1.lower e.1.upper (coordinate p e.0) q) 0 (integers_of m)
      (all_both (IsIntegerIn part s.root parts.master) _ _ (enumerate_from 0 (integers_of m)) integers_in s.is_root.rounded
      (λ e h ends. record {
        at_least = within_ceiling e.1.1.lower (coordinate s.root.lower e.0) (coordinate p e.1.0) q r.positive ends.0
            (scaled_ge den q (coordinate s.root.lower e.0) (coordinate p e.1.0) (coordinate parts.master.x (position_of part e.1.0)) s.shape.point.master.den r.positive (at_column e.1 h.in_master) h.holds.at_least);
        at_most = within_floor e.1.1.upper (coordinate s.root.upper e.0) (coordinate p e.1.0) q r.positive ends.1
            (scaled_le den q (coordinate s.root.upper e.0) (coordinate p e.1.0) (coordinate parts.master.x (position_of part e.1.0)) s.shape.point.master.den r.positive (at_column e.1 h.in_master) h.holds.at_most);
      }))

  whole_meet : AllByRecursion (λ e. IsWhole (coordinate p e.0) q) (integers_of m)
  whole_meet = all_from_numbered (λ e. IsWhole (coordinate p e.0) q) 0 (integers_of m)
      (all_then (IsIntegerIn part s.root parts.master) _ (enumerate_from 0 (integers_of m)) integers_in
      (λ e h. scaled_whole den q (coordinate p e.1.0) (coordinate parts.master.x (position_of part e.1.0)) s.shape.point.master.den (at_column e.1 h.in_master) h.holds.whole))

  -- ---- the blocks
  blocks_at : AllByRecursion (IsBlockAt m part parts.master p q) (enumerate_from 1 parts.blocks)
  blocks_at = all_both _ _ _ (enumerate_from 1 parts.blocks) s.shape.point.each
      (all_both (λ e. AllByRecursion (HoldsInBlock parts.master e.1) (inequalities_of m part e.0)) (λ e. (i : ℕ) → i < width_of part e.0 → coordinate p (column_at part e.0 i) *ℤ (parts.master.den *ℤ e.1.times) ≡ coordinate e.1.y i *ℤ q) (λ e. AllByRecursion (HoldsInBlock parts.master e.1) (inequalities_of m part e.0) × ((i : ℕ) → i < width_of part e.0 → coordinate p (column_at part e.0 i) *ℤ (parts.master.den *ℤ e.1.times) ≡ coordinate e.1.y i *ℤ q)) (enumerate_from 1 parts.blocks) s.rows r.blocks (λ e h g. (h, g)))
      (λ e g h. record { positive = g.0; rows = h.0; point = h.1 })

  in_block : (e : ℕ × BlockPart) → IsBlockAt m part parts.master p q e → (i : Ineq) → FitsIn (width_of part e.0) (width_of part 0) i → HoldsInBlock parts.master e.1 i → IneqHolds part e.0 p q i
  in_block e b i f h = scaled_sum den e.1.times q i.rhs
      (dot i.own (at_part part e.0 (coordinate p))) (dot i.own (coordinate e.1.y))
      (dot i.master (at_part part 0 (coordinate p))) (dot i.master (coordinate parts.master.x))
      s.shape.point.master.den b.positive r.positive
      (dot_scaled (width_of part e.0) i.own (at_part part e.0 (coordinate p)) (coordinate e.1.y) (den *ℤ e.1.times) q f.own b.point)
      (dot_scaled (width_of part 0) i.master (at_part part 0 (coordinate p)) (coordinate parts.master.x) den q f.master r.master)
      h

  block_meets : (e : ℕ × BlockPart) → IsBlockAt m part parts.master p q e → AllByRecursion (IneqHolds part e.0 p q) (inequalities_of m part e.0)
  block_meets e b = all_both (FitsIn (width_of part e.0) (width_of part 0)) (HoldsInBlock parts.master e.1) (IneqHolds part e.0 p q) (inequalities_of m part e.0)
      (part_fits m part e.0 d) b.rows (λ i f h. in_block e b i f h)

  part_meets : (b : ℕ) → b ≤ blocks_of part → AllByRecursion (IneqHolds part b p q) (inequalities_of m part b)
  part_meets zero l = master_meets
  part_meets (suc b) l = each_number (λ k. AllByRecursion (IneqHolds part k p q) (inequalities_of m part k)) 1 parts.blocks
      (all_then (IsBlockAt m part parts.master p q) _ (enumerate_from 1 parts.blocks) blocks_at (λ e h. block_meets e h))
      (suc b) (omega arith) (omega (arith, s.shape.point.blocks))

  point_meets : MeetsAllParts m part p q
  point_meets = record {
    positive = r.positive;
    numbers = r.numbers;
    inequalities = part_meets;
    bounds = bounds_meet;
    whole = whole_meet;
  }

-- ---- the inner cost
module _ (m : Model) (part : List ℕ) (parts : Parts) (v : ℤ) (p : List ℤ) (q : ℤ) (d : IsDecomposed m part) (s : AreWorth m part parts v) (r : IsPointOf m part parts p q) where
  abbrev over : ℤ
  over = parts.master.den

  costs_at : AllByRecursion (IsCostAt m part parts.master p q) (enumerate_from 1 parts.blocks)
  costs_at = all_both _ _ _ (enumerate_from 1 parts.blocks) s.shape.point.each
      (all_both (λ e. dot (terms_in part e.0 (inner_cost m)) (coordinate e.1.y) ≤ℤ (eta_of parts.master e.0 *ℤ e.1.times)) (λ e. (i : ℕ) → i < width_of part e.0 → coordinate p (column_at part e.0 i) *ℤ (parts.master.den *ℤ e.1.times) ≡ coordinate e.1.y i *ℤ q) (λ e. (dot (terms_in part e.0 (inner_cost m)) (coordinate e.1.y) ≤ℤ (eta_of parts.master e.0 *ℤ e.1.times)) × ((i : ℕ) → i < width_of part e.0 → coordinate p (column_at part e.0 i) *ℤ (parts.master.den *ℤ e.1.times) ≡ coordinate e.1.y i *ℤ q)) (enumerate_from 1 parts.blocks) s.costs r.blocks (λ e h g. (h, g)))
      (λ e g h. record { positive = g.0; cost = h.0; point = h.1 })

  block_cost : (e : ℕ × BlockPart) → IsCostAt m part parts.master p q e → (cost_of_part m part p e.0 *ℤ over) ≤ℤ (eta_of parts.master e.0 *ℤ q)
  block_cost e b = scaled_le e.1.times q (eta_of parts.master e.0) (cost_of_part m part p e.0 *ℤ over) (dot (terms_in part e.0 (inner_cost m)) (coordinate e.1.y)) b.positive r.positive
      (*ℤ_assoc (cost_of_part m part p e.0) over e.1.times
      ∙ dot_scaled (width_of part e.0) (terms_in part e.0 (inner_cost m)) (at_part part e.0 (coordinate p)) (coordinate e.1.y) (over *ℤ e.1.times) q (cost_terms_within m part e.0 d) b.point)
      b.cost

  eta_next : (k : ℕ) → eta_of parts.master (suc k) ≡ coordinate parts.master.eta k
  eta_next k = ap (coordinate parts.master.eta) (omega arith)

  each_cost : (k : ℕ) → k < blocks_of part → (cost_of_part m part p (suc k) *ℤ over) ≤ℤ (coordinate parts.master.eta k *ℤ q)
  each_cost k l = subst (λ (t : ℤ). (cost_of_part m part p (suc k) *ℤ over) ≤ℤ (t *ℤ q)) (eta_next k)
      (each_number (λ b. (cost_of_part m part p b *ℤ over) ≤ℤ (eta_of parts.master b *ℤ q)) 1 parts.blocks
      (all_then (IsCostAt m part parts.master p q) _ (enumerate_from 1 parts.blocks) costs_at (λ e h. block_cost e h))
      (suc k) (omega arith) (omega (arith, s.shape.point.blocks)))

  costs_of_blocks : (upto (blocks_of part) (λ k. cost_of_part m part p (suc k)) *ℤ over) ≤ℤ (total parts.master.eta *ℤ q)
  costs_of_blocks =
      let n = blocks_of part in
      let h : (upto n (λ k. cost_of_part m part p (suc k) *ℤ over)) ≤ℤ (upto n (λ k. coordinate parts.master.eta k *ℤ q)) = upto_le n _ _ each_cost in
      let left : upto n (λ k. cost_of_part m part p (suc k) *ℤ over) ≡ upto n (λ k. cost_of_part m part p (suc k)) *ℤ over = upto_scale_right n (λ k. cost_of_part m part p (suc k)) over in
      let right : upto n (λ k. coordinate parts.master.eta k *ℤ q) ≡ upto n (coordinate parts.master.eta) *ℤ q = upto_scale_right n (coordinate parts.master.eta) q in
      let etas : total parts.master.eta ≡ upto n (coordinate parts.master.eta) = total_upto parts.master.eta ∙ ap (λ (k : ℕ). upto k (coordinate parts.master.eta)) s.shape.eta in
      rw (etas, ← left, ← right) h

  inner_at_most : (dot (inner_cost m) (coordinate p) *ℤ over) ≤ℤ (v *ℤ q)
  inner_at_most = sum_at_most over q
      (cost_of_part m part p 0) (upto (blocks_of part) (λ k. cost_of_part m part p (suc k)))
      (dot (terms_in part 0 (inner_cost m)) (coordinate parts.master.x)) (total parts.master.eta)
      (dot (inner_cost m) (coordinate p)) v
      (cost_by_parts m part p d) s.value
      (dot_scaled (width_of part 0) (terms_in part 0 (inner_cost m)) (at_part part 0 (coordinate p)) (coordinate parts.master.x) over q (cost_terms_within m part 0 d) r.master)
      costs_of_blocks

pub parts_are_feasible : (m : Model) (part : List ℕ) (parts : Parts) (p : List ℤ) (q : ℤ) → IsDecomposed m part → AreFeasible m part parts → IsPointOf m part parts p q → IsFeasible m p q
parts_are_feasible m part parts p q d s r = feasible m part p q d (point_meets m part parts p q d s r)

pub parts_cost_at_most : (m : Model) (part : List ℕ) (parts : Parts) (v : ℤ) (p : List ℤ) (q : ℤ) → IsDecomposed m part → AreWorth m part parts v → IsPointOf m part parts p q → (dot (inner_cost m) (coordinate p) *ℤ parts.master.den) ≤ℤ (v *ℤ q)
parts_cost_at_most m part parts v p q d s r = inner_at_most m part parts v p q d s r
