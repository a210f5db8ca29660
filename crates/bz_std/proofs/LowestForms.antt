-- A point in lowest form meets what it meets.
use Rattle.std.specs.Prelude.{ℕ, ◌+◌, ◌-◌, ◌<◌, ◌≡◌, ◌↔◌, ℤ, pos, ◌+ℤ◌, ◌-ℤ◌, ◌*ℤ◌, ◌≤ℤ◌, ◌<ℤ◌, List, ◌++◌, length, map}
use Rattle.std.specs.List.{AllByRecursion, enumerate_from, flat_map}
use Rattle.std.proofs.Common.{ap, sym, subst, ◌∙◌, arith}
use Rattle.std.proofs.lemmas.Int.{ints}
use Rattle.std.proofs.Math.IntN.{*ℤ_comm}
use Rattle.bz_algebra.specs.Sums.{dot, AllBelow}
use Rattle.bz_algebra.proofs.Ring.{*ℤ_assoc, cancel_le_left, cancel_lt_left, cancel_positive, mul_add, mul_left, mul_zero, neg_mul, sub_mul}
use Rattle.bz_algebra.proofs.SumLemmas.{dot_append, dot_same_below, dot_scale}
use Rattle.bz_num.specs.Fold.{products}
use Rattle.bz_model.specs.declared.BlockPart.{BlockPart}
use Rattle.bz_model.specs.declared.Ineq.{Ineq}
use Rattle.bz_model.specs.declared.Master.{Master}
use Rattle.bz_model.specs.declared.Model.{Model}
use Rattle.bz_model.specs.Decomposed.{IsDecomposed}
use Rattle.bz_model.specs.PartPoints.{BlockHolds, HoldsInBlock, HoldsInMaster, eta_of}
use Rattle.bz_model.specs.Parting.{blocks_of, inequalities_of, inner_cost, integers_of, terms_in, width_of}
use Rattle.bz_model.specs.Points.{IsWhole, coordinate}
use Rattle.bz_model.specs.Splits.{FitsPart}
use Rattle.bz_model.proofs.InnerCosts.{cost_terms_within}
use Rattle.bz_model.proofs.MeetingParts.{all_back, all_both, all_from_flat, all_front, all_then}
use Rattle.bz_cut.specs.declared.Cut.{Cut}
use Rattle.bz_cut.specs.declared.Mode.{Mode}
use Rattle.bz_cut.specs.declared.Mode.TheVariants as mode
use Rattle.bz_cut.specs.Points.{CutsOff}
use Rattle.bz_tree.specs.Boxes.{Box}
use Rattle.bz_tree.specs.Leaves.{side_of_cut, side_of_master, sides_of, sides_of_box}
use Rattle.bz_std.specs.LowestForms.{IsLowestOf, IsWithinEnds, MeetsNode}
use Rattle.bz_std.specs.Meanings.{MeetsWithin}
use Rattle.bz_std.specs.Tasks.{IsCutOfSplit, cost_lines, moved, node, own_line, right_pairs, separation, side_line}
use Rattle.bz_std.proofs.CutsMade.{right_of}
use Rattle.bz_std.proofs.ListFacts.{all_from_mapped, coordinate_back, coordinate_front}
use Rattle.bz_std.proofs.MeetingSides.{SideHolds, met_by_sides}
use Rattle.bz_std.proofs.NodeFloors.{dot_moved}
use Rattle.bz_std.proofs.PosedTasks.{IsSide, part_fits, sides_fit}

module _ (n : ℕ) (den : ℤ) (f : ℕ → ℤ) (low : ℤ) (values : List ℤ) (l : IsLowestOf n den f low values) where
  -- a positive denominator stays positive
  pub low_positive : (pos 0) <ℤ den → (pos 0) <ℤ low
  low_positive h = cancel_lt_left l.times (pos 0) low (omega (arith, ints, l.positive)) (omega (arith, ints, h, l.den_is, mul_zero l.times))

  -- whole numbers stay whole
  pub whole_kept : (j : ℕ) → j < n → IsWhole (f j) den ↔ IsWhole (coordinate values j) low
  whole_kept j b = (
    (λ w. (w.0, cancel_positive l.times (coordinate values j) (w.0 *ℤ low) l.positive (l.values_are j b ∙ w.1 ∙ ap (λ (t : ℤ). w.0 *ℤ t) (sym l.den_is) ∙ mul_left w.0 l.times low))),
    (λ w. (w.0, sym (l.values_are j b) ∙ ap (λ (t : ℤ). l.times *ℤ t) w.1 ∙ mul_left l.times w.0 low ∙ ap (λ (t : ℤ). w.0 *ℤ t) l.den_is)),
  )

  -- a sum of the numbers
  sum_of : (es : List (ℕ × ℤ)) → AllBelow n es → dot es f ≡ l.times *ℤ dot es (coordinate values)
  sum_of es b = dot_same_below n es f (λ j. l.times *ℤ coordinate values j) b (λ j k. sym (l.values_are j k)) ∙ dot_scale es l.times (coordinate values)

  -- what isn't above h den is, in lowest form, not above h low
  within : (t h : ℤ) → (l.times *ℤ t) ≤ℤ ((h *ℤ den) +ℤ (pos 0)) → t ≤ℤ (h *ℤ low)
  within t h k = cancel_le_left l.times t (h *ℤ low) l.positive (omega (arith, ints, k, mul_left h l.times low, ap (λ (z : ℤ). h *ℤ z) l.den_is))

-- ---- a completion of a block
turn : (d h t w low : ℤ) → w ≤ℤ (((d *ℤ h) -ℤ t) *ℤ low) → ((low *ℤ t) +ℤ w) ≤ℤ (h *ℤ (d *ℤ low))
turn d h t w low k = omega (arith, ints, k, sub_mul (d *ℤ h) t low, ap (λ (z : ℤ). z *ℤ low) (*ℤ_comm d h), *ℤ_assoc h d low)

module _ (m : Model) (part : List ℕ) (s : IsDecomposed m part) (point : Master) (b : ℕ) (v : ℕ → ℤ) (den : ℤ) (block : BlockPart)
    (l : IsLowestOf (width_of part b) den v block.times block.y) where
  row_holds : (i : Ineq) → FitsPart part b i → (dot i.own v) ≤ℤ ((products (right_pairs point i) *ℤ den) +ℤ (pos 0)) → HoldsInBlock point block i
  row_holds i f k = turn point.den i.rhs (dot i.master (coordinate point.x)) (dot i.own (coordinate block.y)) block.times
      (subst (λ (t : ℤ). (dot i.own (coordinate block.y)) ≤ℤ (t *ℤ block.times)) (right_of m part point b i)
      (within (width_of part b) den v block.times block.y l (dot i.own (coordinate block.y)) (products (right_pairs point i))
      (subst (λ (t : ℤ). t ≤ℤ ((products (right_pairs point i) *ℤ den) +ℤ (pos 0))) (sum_of (width_of part b) den v block.times block.y l i.own f.own) k)))

  pub rows_hold : (way : Mode) → MeetsWithin (separation m part point b way) v den (pos 0) → AllByRecursion (HoldsInBlock point block) (inequalities_of m part b)
  rows_hold way h = all_both _ _ _ (inequalities_of m part b) (part_fits m part s b)
      (all_from_mapped (λ row. (dot row.terms v) ≤ℤ ((row.rhs *ℤ den) +ℤ (pos 0))) (own_line point) (inequalities_of m part b)
      (all_front (λ row. (dot row.terms v) ≤ℤ ((row.rhs *ℤ den) +ℤ (pos 0))) (map (own_line point) (inequalities_of m part b)) (cost_lines m part point b way) h))
      row_holds

  pub block_holds : MeetsWithin (separation m part point b mode.Cost) v den (pos 0) → BlockHolds m part point b block
  block_holds h =
      let c = all_back (λ row. (dot row.terms v) ≤ℤ ((row.rhs *ℤ den) +ℤ (pos 0))) (map (own_line point) (inequalities_of m part b)) (cost_lines m part point b mode.Cost) h in
      record {
        rows = rows_hold mode.Cost h;
        cost = within (width_of part b) den v block.times block.y l _ (eta_of point b)
            (subst (λ (t : ℤ). t ≤ℤ ((eta_of point b *ℤ den) +ℤ (pos 0))) (sum_of (width_of part b) den v block.times block.y l (terms_in part b (inner_cost m)) (cost_terms_within m part b s)) c.0);
      }

-- ---- a point of a node
module _ (m : Model) (part : List ℕ) (s : IsDecomposed m part) (box : Box) (cuts : List Cut) (of_split : AllByRecursion (IsCutOfSplit part) cuts)
    (v : ℕ → ℤ) (den : ℤ) (point : Master) (x_count : length point.x ≡ width_of part 0)
    (l : IsLowestOf (width_of part 0 + blocks_of part) den v point.den (point.x ++ point.eta)) where
  abbrev width : ℕ
  width = width_of part 0

  at_position : (j : ℕ) → j < width → v j ≡ l.times *ℤ coordinate point.x j
  at_position j b = sym (l.values_are j (omega arith)) ∙ ap (λ (t : ℤ). l.times *ℤ t) (coordinate_front point.x point.eta j (omega (arith, x_count)))

  at_eta : (k : ℕ) → k < blocks_of part → v (width + k) ≡ l.times *ℤ coordinate point.eta k
  at_eta k b = sym (l.values_are (width + k) (omega arith)) ∙ ap (λ (t : ℤ). l.times *ℤ t) (coordinate_back point.x point.eta (width + k) k (omega (arith, x_count)))

  left : (i : Ineq) → IsSide m part s i → dot (side_line width i).terms v ≡ l.times *ℤ (dot i.master (coordinate point.x) +ℤ dot i.own (coordinate point.eta))
  left i f = dot_append i.master (moved width i.own) v
      ∙ rw (dot_moved width i.own v, dot_same_below width i.master v (λ j. l.times *ℤ coordinate point.x j) f.master at_position, dot_same_below (blocks_of part) i.own (λ k. v (width + k)) (λ k. l.times *ℤ coordinate point.eta k) f.own at_eta, dot_scale i.master l.times (coordinate point.x), dot_scale i.own l.times (coordinate point.eta))
      (sym (mul_add l.times (dot i.master (coordinate point.x)) (dot i.own (coordinate point.eta))))

  sides_hold : (way : Mode) → MeetsWithin (node m part box cuts way) v den (pos 0) → AllByRecursion (SideHolds point) (sides_of m part box cuts)
  unfolding SideHolds
  sides_hold way h = all_both _ _ (SideHolds point) (sides_of m part box cuts) (sides_fit m part s box cuts of_split)
      (all_from_mapped (λ row. (dot row.terms v) ≤ℤ ((row.rhs *ℤ den) +ℤ (pos 0))) (side_line width) (sides_of m part box cuts) h)
      (λ i f k. within (width + blocks_of part) den v point.den (point.x ++ point.eta) l _ i.rhs (subst (λ (t : ℤ). t ≤ℤ ((i.rhs *ℤ den) +ℤ (pos 0))) (left i f) k))

  pub node_met : (way : Mode) → MeetsWithin (node m part box cuts way) v den (pos 0) → MeetsNode m part box cuts point
  node_met way h = met_by_sides m part box cuts point (sides_hold way h)
