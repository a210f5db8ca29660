-- The tests of the point, of the blocks' costs and of the direction all hold exactly where these hold and fit.
use Rattle.std.specs.Prelude.{ℕ, ℤ, ◌≡◌, ◌*ℤ◌, ◌≤ℤ◌, List, ◌++◌, length}
use Rattle.std.specs.List.{AllByRecursion, enumerate_from}
use Rattle.bz_algebra.specs.Sums.{dot}
use Rattle.bz_model.specs.declared.BlockPart.{BlockPart}
use Rattle.bz_model.specs.declared.Column.{Column}
use Rattle.bz_model.specs.declared.Ineq.{Ineq}
use Rattle.bz_model.specs.declared.Master.{Master}
use Rattle.bz_model.specs.declared.Model.{Model}
use Rattle.bz_model.specs.declared.Parts.{Parts}
use Rattle.bz_model.specs.Parting.{inequalities_of, integers_of, inner_cost, terms_in}
use Rattle.bz_model.specs.Points.{coordinate}
use Rattle.bz_model.proofs.MeetingParts.{all_both}
use Rattle.bz_first.specs.Tests.{AllHold, each_of}
use Rattle.bz_first.proofs.TestLemmas.{all_behind, all_front, all_joined}
use Rattle.bz_num.specs.Fold.{IsNarrowSum}
use Rattle.bz_tree.specs.Boxes.{Box}
use Rattle.bz_model.specs.PartPoints.{BlockHolds, HoldsInBlock, HoldsInMaster, eta_of}
use Rattle.bz_tree.specs.Integers.{IntegerHolds}
use Rattle.bz_model.specs.Rays.{ColumnAllows, IsFallingRay, RowAllows}
use Rattle.bz_judge.specs.PointTests.{Tests, block_tests, in_block_tests, in_master_tests, integer_tests, integers_tests, point_tests}
use Rattle.bz_judge.specs.PointHolds.{PointHolds}
use Rattle.bz_judge.specs.ValueTests.{cost_tests}
use Rattle.bz_judge.specs.RayTests.{ray_bound_tests, ray_cost_tests, ray_integer_tests, ray_row_tests, ray_tests}
use Rattle.bz_model.specs.PointFits.{FitsBlock, FitsCost, FitsInBlock, FitsInMaster, FitsPoint}
use Rattle.bz_model.specs.PointSums.{row_pairs}
use Rattle.bz_first.proofs.Lists.{all_weaker, each_told, each_tested, numbered_told, numbered_tested}

-- ---- the rows of the master, a block and its cost
-- the inequalities of the master hold, where they fit
pub rows_told : (master : Master) (rows : List Ineq) → AllHold (each_of (in_master_tests master) (enumerate_from 0 rows)) → AllByRecursion (HoldsInMaster master) rows
rows_told master rows h = numbered_told (in_master_tests master) (HoldsInMaster master) 0 rows (λ x g. g.1.1.0) h

pub rows_fit : (master : Master) (rows : List Ineq) → AllHold (each_of (in_master_tests master) (enumerate_from 0 rows)) → AllByRecursion (FitsInMaster master) rows
rows_fit master rows h = numbered_told (in_master_tests master) (FitsInMaster master) 0 rows (λ x g. record { sum = g.0; side = g.1.0 }) h

pub rows_tested : (master : Master) (rows : List Ineq) → AllByRecursion (HoldsInMaster master) rows → AllByRecursion (FitsInMaster master) rows → AllHold (each_of (in_master_tests master) (enumerate_from 0 rows))
rows_tested master rows h f = numbered_tested (in_master_tests master) (HoldsInMaster master) (FitsInMaster master) 0 rows (λ x g k. (k.sum, (k.side, (g, tt)))) h f

module _ (m : Model) (part : List ℕ) (master : Master) where
  pub block_rows : (e : ℕ × BlockPart) → AllHold (block_tests m part master e) → AllByRecursion (HoldsInBlock master e.1) (inequalities_of m part e.0)
  block_rows e h = numbered_told (in_block_tests master e.0 e.1) (HoldsInBlock master e.1) 0 (inequalities_of m part e.0) (λ x g. g.1.1.1.1.0) h.1

  pub block_fits : (e : ℕ × BlockPart) → AllHold (block_tests m part master e) → FitsBlock m part master e.0 e.1
  block_fits e h = record {
    scale = h.0;
    rows = numbered_told (in_block_tests master e.0 e.1) (FitsInBlock master e.1) 0 (inequalities_of m part e.0) (λ x g. record { in_master = g.0; in_block = g.1.0; together = g.1.1.0; side = g.1.1.1.0 }) h.1;
  }

  pub block_tested : (e : ℕ × BlockPart) → AllByRecursion (HoldsInBlock master e.1) (inequalities_of m part e.0) → FitsBlock m part master e.0 e.1 → AllHold (block_tests m part master e)
  block_tested e h f = (f.scale, numbered_tested (in_block_tests master e.0 e.1) (HoldsInBlock master e.1) (FitsInBlock master e.1) 0 (inequalities_of m part e.0) (λ x g k. (k.in_master, (k.in_block, (k.together, (k.side, (g, tt)))))) h f.rows)

  -- the block's inner cost is at most its eta
  abbrev pub CostHolds : ℕ × BlockPart → Type 0
  CostHolds e = dot (terms_in part e.0 (inner_cost m)) (coordinate e.1.y) ≤ℤ (eta_of master e.0 *ℤ e.1.times)

  pub cost_tested : (e : ℕ × BlockPart) → CostHolds e → FitsCost m part master e.0 e.1 → AllHold (cost_tests m part master e)
  cost_tested e h f = (f.cost, (f.eta, (h, tt)))

  pub cost_fits : (e : ℕ × BlockPart) → AllHold (cost_tests m part master e) → FitsCost m part master e.0 e.1
  cost_fits e h = record { cost = h.0; eta = h.1.0 }

-- ---- the integer columns
module _ (m : Model) (part : List ℕ) (box : Box) (master : Master) where
  abbrev column_tests : ℕ × (ℕ × Column) → Tests
  column_tests = integer_tests part box master (length (inequalities_of m part 0))

  pub integers_told : AllHold (integers_tests m part box master) → AllByRecursion (IntegerHolds part box master) (enumerate_from 0 (integers_of m))
  integers_told h = each_told column_tests (IntegerHolds part box master) (enumerate_from 0 (integers_of m)) (λ x g. record { whole = g.0; at_most = g.1.0; at_least = g.1.1.0 }) h

  pub integers_tested : AllByRecursion (IntegerHolds part box master) (enumerate_from 0 (integers_of m)) → AllHold (integers_tests m part box master)
  integers_tested h = each_tested column_tests (IntegerHolds part box master) (IntegerHolds part box master) (enumerate_from 0 (integers_of m)) (λ x g k. (g.whole, (g.at_most, (g.at_least, tt)))) h h

-- ---- the point
module _ (m : Model) (part : List ℕ) (root : Box) (parts : Parts) where
  abbrev masters : Tests
  masters = each_of (in_master_tests parts.master) (enumerate_from 0 (inequalities_of m part 0))

  abbrev integers : Tests
  integers = integers_tests m part root parts.master

  abbrev blocks : Tests
  blocks = each_of (block_tests m part parts.master) (enumerate_from 1 parts.blocks)

  pub point_told : AllHold (point_tests m part root parts) → PointHolds m part root parts
  point_told h = record {
    master = rows_told parts.master (inequalities_of m part 0) (all_front masters integers (all_front (masters ++ integers) blocks h));
    integers = integers_told m part root parts.master (all_behind masters integers (all_front (masters ++ integers) blocks h));
    blocks = each_told (block_tests m part parts.master) (λ e. AllByRecursion (HoldsInBlock parts.master e.1) (inequalities_of m part e.0)) (enumerate_from 1 parts.blocks) (block_rows m part parts.master) (all_behind (masters ++ integers) blocks h);
  }

  pub point_fits : AllHold (point_tests m part root parts) → FitsPoint m part parts
  point_fits h = record {
    master = rows_fit parts.master (inequalities_of m part 0) (all_front masters integers (all_front (masters ++ integers) blocks h));
    blocks = each_told (block_tests m part parts.master) (λ e. FitsBlock m part parts.master e.0 e.1) (enumerate_from 1 parts.blocks) (block_fits m part parts.master) (all_behind (masters ++ integers) blocks h);
  }

  pub point_tested : PointHolds m part root parts → FitsPoint m part parts → AllHold (point_tests m part root parts)
  point_tested h f = all_joined (masters ++ integers) blocks
      (all_joined masters integers
      (rows_tested parts.master (inequalities_of m part 0) h.master f.master)
      (integers_tested m part root parts.master h.integers))
      (each_tested (block_tests m part parts.master) (λ e. AllByRecursion (HoldsInBlock parts.master e.1) (inequalities_of m part e.0)) (λ e. FitsBlock m part parts.master e.0 e.1) (enumerate_from 1 parts.blocks) (block_tested m part parts.master) h.blocks f.blocks)

  -- ---- the costs of the blocks
  pub costs_told : AllHold (each_of (cost_tests m part parts.master) (enumerate_from 1 parts.blocks)) → PointHolds m part root parts → AllByRecursion (λ e. BlockHolds m part parts.master e.0 e.1) (enumerate_from 1 parts.blocks)
  costs_told h p = all_both (λ e. AllByRecursion (HoldsInBlock parts.master e.1) (inequalities_of m part e.0)) (CostHolds m part parts.master) (λ e. BlockHolds m part parts.master e.0 e.1) (enumerate_from 1 parts.blocks) p.blocks
      (each_told (cost_tests m part parts.master) (CostHolds m part parts.master) (enumerate_from 1 parts.blocks) (λ e g. g.1.1.0) h)
      (λ e r k. record { rows = r; cost = k })

  pub costs_fit : AllHold (each_of (cost_tests m part parts.master) (enumerate_from 1 parts.blocks)) → AllByRecursion (λ e. FitsCost m part parts.master e.0 e.1) (enumerate_from 1 parts.blocks)
  costs_fit h = each_told (cost_tests m part parts.master) (λ e. FitsCost m part parts.master e.0 e.1) (enumerate_from 1 parts.blocks) (cost_fits m part parts.master) h

  pub costs_tested : AllByRecursion (λ e. BlockHolds m part parts.master e.0 e.1) (enumerate_from 1 parts.blocks) → AllByRecursion (λ e. FitsCost m part parts.master e.0 e.1) (enumerate_from 1 parts.blocks) → AllHold (each_of (cost_tests m part parts.master) (enumerate_from 1 parts.blocks))
  costs_tested h f = each_tested (cost_tests m part parts.master) (λ e. BlockHolds m part parts.master e.0 e.1) (λ e. FitsCost m part parts.master e.0 e.1) (enumerate_from 1 parts.blocks) (λ e g k. cost_tested m part parts.master e g.cost k) h f

  pub rows_of_blocks : AllByRecursion (λ e. BlockHolds m part parts.master e.0 e.1) (enumerate_from 1 parts.blocks) → AllByRecursion (λ e. AllByRecursion (HoldsInBlock parts.master e.1) (inequalities_of m part e.0)) (enumerate_from 1 parts.blocks)
  rows_of_blocks h = all_weaker (λ e. BlockHolds m part parts.master e.0 e.1) (λ e. AllByRecursion (HoldsInBlock parts.master e.1) (inequalities_of m part e.0)) (enumerate_from 1 parts.blocks) (λ e g. g.rows) h

-- ---- the direction
module _ (m : Model) (ray : List ℤ) where
  abbrev stays : Tests
  stays = each_of (ray_integer_tests ray) (enumerate_from 0 m.columns)

  abbrev rows : Tests
  rows = each_of (ray_row_tests ray) (enumerate_from 0 m.rows)

  abbrev bounds : Tests
  bounds = each_of (ray_bound_tests ray) (enumerate_from 0 m.columns)

  module _ (h : AllHold (ray_tests m ray)) where
    before_cost : AllHold (stays ++ rows ++ bounds)
    before_cost = all_front (stays ++ rows ++ bounds) (ray_cost_tests m ray) h

    before_bounds : AllHold (stays ++ rows)
    before_bounds = all_front (stays ++ rows) bounds before_cost

    cost_holds : AllHold (ray_cost_tests m ray)
    cost_holds = all_behind (stays ++ rows ++ bounds) (ray_cost_tests m ray) h

    pub ray_told : length ray ≡ length m.columns → IsFallingRay m ray
    ray_told l = record {
      numbers = l;
      rows = numbered_told (ray_row_tests ray) (RowAllows ray) 0 m.rows (λ e g. g.1.0) (all_behind stays rows before_bounds);
      columns = all_both (λ e. AllHold (ray_integer_tests ray e)) (λ e. AllHold (ray_bound_tests ray e)) (λ e. ColumnAllows e.1 (coordinate ray e.0)) (enumerate_from 0 m.columns)
          (each_told (ray_integer_tests ray) (λ e. AllHold (ray_integer_tests ray e)) (enumerate_from 0 m.columns) (λ e g. g) (all_front stays rows before_bounds))
          (each_told (ray_bound_tests ray) (λ e. AllHold (ray_bound_tests ray e)) (enumerate_from 0 m.columns) (λ e g. g) (all_behind (stays ++ rows) bounds before_cost))
          (λ e s b. record { at_least = b.0.0; at_most = b.0.1; integer = s.0 });
      cost = cost_holds.1.0;
    }

    pub ray_rows_fit : AllByRecursion (λ row. IsNarrowSum (row_pairs row.terms ray)) m.rows
    ray_rows_fit = numbered_told (ray_row_tests ray) (λ row. IsNarrowSum (row_pairs row.terms ray)) 0 m.rows (λ e g. g.0) (all_behind stays rows before_bounds)

    pub ray_cost_fits : IsNarrowSum (row_pairs (inner_cost m) ray)
    ray_cost_fits = cost_holds.0

  pub ray_tested : IsFallingRay m ray → AllByRecursion (λ row. IsNarrowSum (row_pairs row.terms ray)) m.rows → IsNarrowSum (row_pairs (inner_cost m) ray) → AllHold (ray_tests m ray)
  ray_tested r f k = all_joined (stays ++ rows ++ bounds) (ray_cost_tests m ray)
      (all_joined (stays ++ rows) bounds
      (all_joined stays rows
      (each_tested (ray_integer_tests ray) (λ e. ColumnAllows e.1 (coordinate ray e.0)) (λ e. ColumnAllows e.1 (coordinate ray e.0)) (enumerate_from 0 m.columns) (λ e g h. (g.integer, tt)) r.columns r.columns)
      (numbered_tested (ray_row_tests ray) (RowAllows ray) (λ row. IsNarrowSum (row_pairs row.terms ray)) 0 m.rows (λ e g h. (h, (g, tt))) r.rows f))
      (each_tested (ray_bound_tests ray) (λ e. ColumnAllows e.1 (coordinate ray e.0)) (λ e. ColumnAllows e.1 (coordinate ray e.0)) (enumerate_from 0 m.columns) (λ e g h. ((g.at_least, g.at_most), tt)) r.columns r.columns))
      (k, (r.cost, tt))
