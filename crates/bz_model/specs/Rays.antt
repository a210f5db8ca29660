-- Directions along which every feasible point stays feasible and the inner cost falls.
use Rattle.std.specs.Prelude.{ℤ, pos, ◌≡◌, ◌<ℤ◌, ◌≤ℤ◌, List, length, IfSome}
use Rattle.std.specs.Bool.{OnTrue}
use Rattle.std.specs.List.{AllByRecursion, enumerate_from}
use Rattle.bz_algebra.specs.Sums.{dot}
use Rattle.bz_model.specs.declared.records.Column.{Column}
use Rattle.bz_model.specs.declared.records.Model.{Model}
use Rattle.bz_model.specs.declared.records.Row.{Row}
use Rattle.bz_model.specs.Parting.{inner_cost}
use Rattle.bz_model.specs.Points.{coordinate}

-- the row's sum doesn't fall along the ray where it has a lower side, and doesn't rise where it has an upper one
pub record RowAllows (ray : List ℤ) (row : Row) : Type 0 where
  pub at_least : IfSome row.lower (λ l. pos 0 ≤ℤ dot row.terms (coordinate ray))
  pub at_most : IfSome row.upper (λ u. dot row.terms (coordinate ray) ≤ℤ pos 0)

-- the column doesn't fall along the ray where it has a lower bound, doesn't rise where it has an upper one, and stays
-- where it is an integer
pub record ColumnAllows (column : Column) (step : ℤ) : Type 0 where
  pub at_least : IfSome column.lower (λ f. pos 0 ≤ℤ step)
  pub at_most : IfSome column.upper (λ f. step ≤ℤ pos 0)
  pub integer : OnTrue column.integer (step ≡ pos 0)

-- along the ray every feasible point stays feasible, and the inner cost falls
pub record IsFallingRay (m : Model) (ray : List ℤ) : Type 0 where
  pub numbers : length ray ≡ length m.columns
  pub rows : AllByRecursion (RowAllows ray) m.rows
  pub columns : AllByRecursion (λ e. ColumnAllows e.1 (coordinate ray e.0)) (enumerate_from 0 m.columns)
  pub cost : dot (inner_cost m) (coordinate ray) <ℤ pos 0
