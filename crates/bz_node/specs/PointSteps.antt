-- What the steps from a least point that is whole come to.
use Rattle.std.specs.Prelude.{ℕ, ◌+◌, ◌≡◌, ℤ, pos, List, ◌++◌, Option, Some, None, false}
use Rattle.std.specs.List.{AllByRecursion}
use Rattle.bz_algebra.specs.Sums.{dot}
use Rattle.bz_num.specs.Dense.{entry}
use Rattle.bz_model.specs.declared.Master.{Master}
use Rattle.bz_model.specs.declared.Model.{Model}
use Rattle.bz_model.specs.Parting.{blocks_of, inequalities_of, width_of}
use Rattle.bz_model.specs.PointFits.{FitsInMaster}
use Rattle.bz_model.specs.Points.{IsWhole}
use Rattle.bz_cut.specs.declared.Mode.{Mode}
use Rattle.bz_cut.specs.declared.Mode.TheVariants as mode
use Rattle.bz_tree.specs.declared.Leaf.{Leaf}
use Rattle.bz_tree.specs.Integers.{positions_of}
use Rattle.bz_judge.specs.declared.faults.CheckFault.TheVariants as fault
use Rattle.bz_judge.specs.PointTests.{Tests}
use Rattle.bz_judge.specs.ValueTests.{value_tests}
use Rattle.bz_tableau.specs.declared.answers.LpStop.{LpStop}
use Rattle.bz_tableau.specs.declared.answers.LpStop.TheVariants as lp_stop
use Rattle.bz_tableau.specs.declared.answers.Vals.{Vals}
use Rattle.bz_tableau.specs.declared.answers.WideAt.{WideAt}
use Rattle.bz_tableau.specs.declared.answers.WideAt.TheVariants.{Build, Pivot, Den, Fold}
use Rattle.bz_std.specs.LowestForms.{IsLowestOf}
use Rattle.bz_std.specs.Meanings.{MeetsWithin, differences}
use Rattle.bz_std.specs.Tasks.{IsMasterOf, node_cost}
use Rattle.bz_event.specs.Failing.{Fails}
use Rattle.bz_event.specs.Nodes.{FitsValue, HasLeafOfValue, value_of}
use Rattle.bz_event.specs.Stops.{IsWidePointSum, master_tests}
use Rattle.bz_node.specs.declared.programs.NodeProgram.{NodeProgram}
use Rattle.bz_node.specs.NodePrograms.{cuts_of, mode_of, model_of, part_of, posed_of, region_of}

-- the point has an eta for each block, and its numbers are f / den in lowest form
pub record IsPointOf (part : List ℕ) (den : ℤ) (f : ℕ → ℤ) (point : Master) : Type 0 where
  pub shape : IsMasterOf part point
  pub lowest : IsLowestOf (width_of part 0 + blocks_of part) den f point.den (point.x ++ point.eta)

-- the least point z meets the node and is whole on the integer columns, and the leaf is of its cost
pub record IsWholePoint (n : NodeProgram) (z : Vals) (leaf : Option Leaf) : Type 0 where
  pub meets : MeetsWithin (posed_of n) (differences (entry z.num)) z.den (pos 0)
  pub whole : AllByRecursion (λ p. IsWhole (differences (entry z.num) p) z.den) (positions_of (model_of n) (part_of n))
  pub leaf_is : HasLeafOfValue (model_of n) (part_of n) (region_of n) (cuts_of n) (mode_of n)
      (dot (node_cost (model_of n) (part_of n) mode.Cost) (differences (entry z.num))) z.den leaf

-- the tests of the value that the point has
abbrev pub own_value_tests : Model → List ℕ → Master → Tests
own_value_tests m part point = value_tests m part point (value_of m part point)

-- no sum of the point is wide, or the one at this place of this list is
abbrev pub FindsWideSum : Model → List ℕ → Mode → Master → Option (ℕ × ℕ) → Type 0
FindsWideSum m part way point None =
    AllByRecursion (FitsInMaster point) (inequalities_of m part 0) × FitsValue m part way point
FindsWideSum m part way point (Some place) = Fails (master_tests m part way point) (fault.Wide place.0 place.1)

-- the place is a sum of the whole point that z is
abbrev pub IsWideOfPoint : Model → List ℕ → Mode → Vals → List ℕ → WideAt → Type 0
IsWideOfPoint m part way z basis (Build row) = ⊥
IsWideOfPoint m part way z basis (Pivot relaxed at goal row pivot_row column) = ⊥
IsWideOfPoint m part way z basis (Den relaxed at place) = ⊥
IsWideOfPoint m part way z basis (Fold relaxed at column list place) =
    (relaxed ≡ false) × (at ≡ basis) × (column ≡ None) × IsWidePointSum m part way z list place

-- there was no memory, or a sum of the point is wide where the stop says
abbrev pub StopsPoint : Model → List ℕ → Mode → Vals → List ℕ → LpStop → Type 0
StopsPoint m part way z basis (lp_stop.Wide at) = IsWideOfPoint m part way z basis at
StopsPoint m part way z basis lp_stop.OutOfMemory = Unit {0}
