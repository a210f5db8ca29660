-- What the tests of this crate tell.
use Rattle.std.specs.Prelude.{ℕ, ℤ, ◌≡◌, ◌+ℤ◌, ◌*ℤ◌, ◌≤ℤ◌, ◌↔◌, List, length}
use Rattle.std.specs.List.{AllByRecursion, enumerate_from}
use Rattle.bz_algebra.specs.Sums.{dot}
use Rattle.bz_num.specs.Fold.{IsNarrowSum}
use Rattle.bz_model.specs.declared.BlockPart.{BlockPart}
use Rattle.bz_model.specs.declared.Ineq.{Ineq}
use Rattle.bz_model.specs.declared.Master.{Master}
use Rattle.bz_model.specs.declared.Model.{Model}
use Rattle.bz_model.specs.declared.Parts.{Parts}
use Rattle.bz_model.specs.Parting.{inequalities_of, inner_cost, integers_of, terms_in}
use Rattle.bz_model.specs.PartPoints.{HoldsInBlock, HoldsInMaster, eta_of, total}
use Rattle.bz_model.specs.PointFits.{FitsBlock, FitsCost, FitsInMaster, FitsPoint, FitsStated}
use Rattle.bz_model.specs.Points.{coordinate}
use Rattle.bz_model.specs.PointSums.{row_pairs, value_pairs}
use Rattle.bz_model.specs.Rays.{IsFallingRay}
use Rattle.bz_first.specs.Tests.{AllHold, each_of}
use Rattle.bz_cut.specs.declared.Cut.{Cut}
use Rattle.bz_tree.specs.declared.Leaf.{Leaf}
use Rattle.bz_tree.specs.Boxes.{Box}
use Rattle.bz_tree.specs.Leaves.{LeafHolds, sides_of}
use Rattle.bz_tree.specs.Integers.{IntegerHolds}
use Rattle.bz_tree.specs.TreeFits.{FitsLeaf}
use Rattle.bz_judge.specs.LeafTests.{leaf_tests}
use Rattle.bz_judge.specs.PointHolds.{PointHolds}
use Rattle.bz_judge.specs.PointTests.{block_tests, in_master_tests, integers_tests, point_tests}
use Rattle.bz_judge.specs.RayTests.{ray_tests}
use Rattle.bz_judge.specs.ValueTests.{cost_tests, value_tests}

-- The tests of inequalities of the master, of a block's inequalities, of the integer columns, of a whole point, of a
-- block's cost, of a value, of a direction and of a leaf all hold exactly where what they are about holds, and no sum or
-- product is wide that tells so. The tests of integer columns need no sum and no product that may be wide.
pub record TestsTell : Type 0 where
  pub rows : (master : Master) (rows : List Ineq) →
      AllHold (each_of (in_master_tests master) (enumerate_from 0 rows))
      ↔ (AllByRecursion (HoldsInMaster master) rows × AllByRecursion (FitsInMaster master) rows)
  pub block : (m : Model) (part : List ℕ) (master : Master) (b : ℕ) (block : BlockPart) →
      AllHold (block_tests m part master (b, block))
      ↔ (AllByRecursion (HoldsInBlock master block) (inequalities_of m part b) × FitsBlock m part master b block)
  pub integers : (m : Model) (part : List ℕ) (box : Box) (master : Master) →
      AllHold (integers_tests m part box master)
      ↔ AllByRecursion (IntegerHolds part box master) (enumerate_from 0 (integers_of m))
  pub point : (m : Model) (part : List ℕ) (root : Box) (parts : Parts) →
      AllHold (point_tests m part root parts) ↔ (PointHolds m part root parts × FitsPoint m part parts)
  pub cost : (m : Model) (part : List ℕ) (master : Master) (b : ℕ) (block : BlockPart) →
      AllHold (cost_tests m part master (b, block))
      ↔ ((dot (terms_in part b (inner_cost m)) (coordinate block.y) ≤ℤ (eta_of master b *ℤ block.times))
      × FitsCost m part master b block)
  pub value : (m : Model) (part : List ℕ) (master : Master) (value : ℤ) →
      AllHold (value_tests m part master value)
      ↔ ((value ≡ dot (terms_in part 0 (inner_cost m)) (coordinate master.x) +ℤ total master.eta)
      × IsNarrowSum (value_pairs (terms_in part 0 (inner_cost m)) master) × FitsStated m value master.den)
  pub ray : (m : Model) (ray : List ℤ) → length ray ≡ length m.columns →
      AllHold (ray_tests m ray)
      ↔ (IsFallingRay m ray
      × AllByRecursion (λ row. IsNarrowSum (row_pairs row.terms ray)) m.rows
      × IsNarrowSum (row_pairs (inner_cost m) ray))
  pub leaf : (m : Model) (part : List ℕ) (box : Box) (cuts : List Cut) (node : ℕ) (leaf : Leaf) →
      AllHold (leaf_tests m part (sides_of m part box cuts) node leaf)
      ↔ (LeafHolds m part box cuts leaf × FitsLeaf m part box cuts leaf)
