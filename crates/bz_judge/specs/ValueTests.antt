-- The tests of the blocks' costs and of the value at a point of the parts, in their order.
use Rattle.std.specs.Prelude.{ℕ, ℤ, ◌≡◌, ◌+ℤ◌, ◌*ℤ◌, ◌≤ℤ◌, List, [], ◌∷◌, ◌++◌}
use Rattle.bz_algebra.specs.Numbers.{IsNarrow}
use Rattle.bz_algebra.specs.Sums.{dot}
use Rattle.bz_num.specs.Fold.{IsNarrowSum}
use Rattle.bz_model.specs.declared.BlockPart.{BlockPart}
use Rattle.bz_model.specs.declared.Master.{Master}
use Rattle.bz_model.specs.declared.Model.{Model}
use Rattle.bz_model.specs.Parting.{inner_cost, terms_in}
use Rattle.bz_model.specs.PartPoints.{eta_of, total}
use Rattle.bz_model.specs.Points.{coordinate}
use Rattle.bz_model.specs.PointSums.{row_pairs, stated_pairs, value_pairs}
use Rattle.std.specs.List.{enumerate_from}
use Rattle.bz_first.specs.Tests.{each_of, test}
use Rattle.bz_judge.specs.declared.faults.CheckFault.TheVariants as fault
use Rattle.bz_judge.specs.PointTests.{Tests}
use Rattle.bz_judge.specs.WideLists.{cost_sums, stated_numbers, value_sum}

-- block b: its inner cost, its eta times `times`, and that the one is at most the other
abbrev pub cost_tests : Model → List ℕ → Master → ℕ × BlockPart → Tests
cost_tests m part master e =
    test (fault.Wide cost_sums e.0) (IsNarrowSum (row_pairs (terms_in part e.0 (inner_cost m)) e.1.y))
    ∷ test (fault.Wide cost_sums e.0) (IsNarrow (eta_of master e.0 *ℤ e.1.times))
    ∷ test (fault.Cost e.0)
    (dot (terms_in part e.0 (inner_cost m)) (coordinate e.1.y) ≤ℤ (eta_of master e.0 *ℤ e.1.times))
    ∷ []

-- all blocks
abbrev pub costs_tests : Model → List ℕ → Master → List BlockPart → Tests
costs_tests m part master blocks = each_of (cost_tests m part master) (enumerate_from 1 blocks)

-- the value is the master's inner cost with the etas
abbrev pub sum_tests : Model → List ℕ → Master → ℤ → Tests
sum_tests m part master value =
    test (fault.Wide value_sum 0) (IsNarrowSum (value_pairs (terms_in part 0 (inner_cost m)) master))
    ∷ test fault.Value (value ≡ dot (terms_in part 0 (inner_cost m)) (coordinate master.x) +ℤ total master.eta)
    ∷ []

-- the objective that a value over a denominator states is not wide
abbrev pub stated_tests : Model → ℤ → ℤ → Tests
stated_tests m value den =
    test (fault.Wide stated_numbers 0) (IsNarrowSum (stated_pairs m value den))
    ∷ test (fault.Wide stated_numbers 1) (IsNarrow (m.scale *ℤ den))
    ∷ []

-- the value is the master's inner cost with the etas, and the objective that it states is not wide
abbrev pub value_tests : Model → List ℕ → Master → ℤ → Tests
value_tests m part master value = sum_tests m part master value ++ stated_tests m value master.den
