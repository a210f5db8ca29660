-- A point meets a node where each side of the node's leaves holds at it.
use Rattle.std.specs.Prelude.{ℕ, ◌-◌, ℤ, pos, ◌+ℤ◌, ◌-ℤ◌, ◌*ℤ◌, ◌≤ℤ◌, ◌<ℤ◌, neg_ℤ, List, [], ◌∷◌, ◌++◌, map}
use Rattle.std.specs.List.{AllByRecursion, enumerate_from, flat_map}
use Rattle.std.proofs.Common.{arith}
use Rattle.std.proofs.lemmas.Int.{by_lt_z, ints}
use Rattle.bz_algebra.specs.Sums.{dot}
use Rattle.bz_algebra.proofs.Ring.{neg_mul}
use Rattle.bz_model.specs.declared.Column.{Column}
use Rattle.bz_model.specs.declared.Ineq.{Ineq}
use Rattle.bz_model.specs.declared.Master.{Master}
use Rattle.bz_model.specs.declared.Model.{Model}
use Rattle.bz_model.specs.PartPoints.{HoldsInMaster}
use Rattle.bz_model.specs.Parting.{inequalities_of, integers_of, position_of}
use Rattle.bz_model.specs.Points.{coordinate}
use Rattle.bz_model.proofs.MeetingParts.{all_append, all_back, all_flat, all_from_flat, all_front, all_then}
use Rattle.bz_model.proofs.Numbered.{all_mapped}
use Rattle.bz_cut.specs.declared.Cut.{Cut}
use Rattle.bz_cut.specs.Points.{CutsOff}
use Rattle.bz_tree.specs.Boxes.{Box}
use Rattle.bz_tree.specs.Leaves.{side_of_cut, side_of_master, sides_of, sides_of_box}
use Rattle.bz_std.specs.LowestForms.{IsWithinEnds, MeetsNode}
use Rattle.bz_std.proofs.ListFacts.{all_from_mapped}

-- the side holds at the point
unfoldable pub SideHolds : Master → Ineq → Type 0
SideHolds point i = (dot i.master (coordinate point.x) +ℤ dot i.own (coordinate point.eta)) ≤ℤ (i.rhs *ℤ point.den)

module _ (m : Model) (part : List ℕ) (box : Box) (cuts : List Cut) (point : Master) where
  abbrev of_master : List Ineq
  of_master = map side_of_master (inequalities_of m part 0)

  abbrev of_box : List Ineq
  of_box = flat_map (sides_of_box part box) (enumerate_from 0 (integers_of m))

  abbrev of_cuts : List Ineq
  of_cuts = map side_of_cut cuts

  no_cut : (cut : Cut) → SideHolds point (side_of_cut cut) → ¬ CutsOff cut point
  unfolding SideHolds
  no_cut cut h k = omega (arith, ints, h, k, neg_mul cut.p0 (coordinate point.eta (cut.block - 1)))

  kept_side : (cut : Cut) → (¬ CutsOff cut point) → SideHolds point (side_of_cut cut)
  unfolding SideHolds
  kept_side cut h = by_lt_z (cut.beta *ℤ point.den) (dot cut.alpha (coordinate point.x) -ℤ (cut.p0 *ℤ coordinate point.eta (cut.block - 1)))
      (λ off. absurd (h off))
      (λ l. omega (arith, ints, l, neg_mul cut.p0 (coordinate point.eta (cut.block - 1))))

  ends_met : (e : ℕ × (ℕ × Column)) → AllByRecursion (SideHolds point) (sides_of_box part box e) → IsWithinEnds part box point e
  unfolding SideHolds
  ends_met e k = record {
    at_least = omega (arith, ints, k.1.0, neg_mul (coordinate box.lower e.0) point.den);
    at_most = omega (arith, ints, k.0);
  }

  end_sides : (e : ℕ × (ℕ × Column)) → IsWithinEnds part box point e → AllByRecursion (SideHolds point) (sides_of_box part box e)
  unfolding SideHolds
  end_sides e w = (omega (arith, ints, w.at_most), (omega (arith, ints, w.at_least, neg_mul (coordinate box.lower e.0) point.den), tt))

  row_met : (i : Ineq) → SideHolds point (side_of_master i) → HoldsInMaster point i
  unfolding SideHolds
  row_met i k = omega (arith, ints, k)

  row_side : (i : Ineq) → HoldsInMaster point i → SideHolds point (side_of_master i)
  unfolding SideHolds
  row_side i k = omega (arith, ints, k)

  pub met_by_sides : AllByRecursion (SideHolds point) (sides_of m part box cuts) → MeetsNode m part box cuts point
  met_by_sides all =
      let front : AllByRecursion (SideHolds point) (of_master ++ of_box) = all_front (SideHolds point) (of_master ++ of_box) of_cuts all in
      record {
        rows = all_then (λ i. SideHolds point (side_of_master i)) (HoldsInMaster point) (inequalities_of m part 0)
            (all_from_mapped (SideHolds point) side_of_master (inequalities_of m part 0) (all_front (SideHolds point) of_master of_box front))
            row_met;
        ends = all_then (λ e. AllByRecursion (SideHolds point) (sides_of_box part box e)) (IsWithinEnds part box point) (enumerate_from 0 (integers_of m))
            (all_from_flat (SideHolds point) (sides_of_box part box) (enumerate_from 0 (integers_of m)) (all_back (SideHolds point) of_master of_box front))
            ends_met;
        kept = all_then (λ cut. SideHolds point (side_of_cut cut)) (λ cut. ¬ CutsOff cut point) cuts
            (all_from_mapped (SideHolds point) side_of_cut cuts (all_back (SideHolds point) (of_master ++ of_box) of_cuts all))
            no_cut;
      }

  pub sides_of_met : MeetsNode m part box cuts point → AllByRecursion (SideHolds point) (sides_of m part box cuts)
  sides_of_met h = all_append (SideHolds point) (of_master ++ of_box) of_cuts
      (all_append (SideHolds point) of_master of_box
      (all_mapped (SideHolds point) side_of_master (inequalities_of m part 0) (all_then (HoldsInMaster point) _ (inequalities_of m part 0) h.rows row_side))
      (all_flat (SideHolds point) (sides_of_box part box) (enumerate_from 0 (integers_of m)) (all_then (IsWithinEnds part box point) _ (enumerate_from 0 (integers_of m)) h.ends end_sides)))
      (all_mapped (SideHolds point) side_of_cut cuts (all_then (λ cut. ¬ CutsOff cut point) _ cuts h.kept kept_side))
