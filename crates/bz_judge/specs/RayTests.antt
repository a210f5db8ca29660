-- The tests of a direction, in their order.
use Rattle.std.specs.Prelude.{ℕ, ℤ, pos, ◌≡◌, ◌<ℤ◌, ◌≤ℤ◌, List, [], ◌∷◌, ◌++◌, length, IfSome}
use Rattle.std.specs.Bool.{OnTrue}
use Rattle.std.specs.List.{enumerate_from}
use Rattle.bz_algebra.specs.Sums.{dot}
use Rattle.bz_num.specs.Fold.{IsNarrowSum}
use Rattle.bz_model.specs.declared.Column.{Column}
use Rattle.bz_model.specs.declared.Model.{Model}
use Rattle.bz_model.specs.declared.Row.{Row}
use Rattle.bz_model.specs.Parting.{inner_cost}
use Rattle.bz_model.specs.Points.{coordinate}
use Rattle.bz_model.specs.PointSums.{row_pairs}
use Rattle.bz_model.specs.Rays.{RowAllows}
use Rattle.bz_first.specs.Tests.{each_of, test}
use Rattle.bz_judge.specs.declared.faults.CheckFault.TheVariants as fault
use Rattle.bz_judge.specs.PointTests.{Tests}
use Rattle.bz_judge.specs.WideLists.{ray_sums}

-- an integer column stays where it is
abbrev pub ray_integer_tests : List ℤ → ℕ × Column → Tests
ray_integer_tests ray e = test fault.Ray (OnTrue e.1.integer (coordinate ray e.0 ≡ pos 0)) ∷ []

-- row r: its sum along the direction, which keeps its sides
abbrev pub ray_row_tests : List ℤ → ℕ × Row → Tests
ray_row_tests ray e =
    test (fault.Wide ray_sums e.0) (IsNarrowSum (row_pairs e.1.terms ray)) ∷ test fault.Ray (RowAllows ray e.1) ∷ []

-- a step keeps the bounds that the column has
abbrev pub KeepsBounds : Column → ℤ → Type 0
KeepsBounds column step = IfSome column.lower (λ f. pos 0 ≤ℤ step) × IfSome column.upper (λ f. step ≤ℤ pos 0)

-- a column's number keeps its bounds
abbrev pub ray_bound_tests : List ℤ → ℕ × Column → Tests
ray_bound_tests ray e = test fault.Ray (KeepsBounds e.1 (coordinate ray e.0)) ∷ []

-- the inner cost falls along the direction
abbrev pub ray_cost_tests : Model → List ℤ → Tests
ray_cost_tests m ray =
    test (fault.Wide ray_sums (length m.rows)) (IsNarrowSum (row_pairs (inner_cost m) ray))
    ∷ test fault.Ray (dot (inner_cost m) (coordinate ray) <ℤ pos 0)
    ∷ []

abbrev pub ray_tests : Model → List ℤ → Tests
ray_tests m ray =
    each_of (ray_integer_tests ray) (enumerate_from 0 m.columns)
    ++ each_of (ray_row_tests ray) (enumerate_from 0 m.rows)
    ++ each_of (ray_bound_tests ray) (enumerate_from 0 m.columns)
    ++ ray_cost_tests m ray
