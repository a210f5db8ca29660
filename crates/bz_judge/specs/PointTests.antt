-- The tests of a point of the parts, in their order. A test answers the fault that it stands for; the tests that a sum is
-- not wide stand where the sum stands.
use Rattle.std.specs.Prelude.{ℕ, ◌+◌, ◌*◌, ◌*ℤ◌, List, [], ◌∷◌, ◌++◌, length}
use Rattle.std.specs.List.{enumerate_from}
use Rattle.bz_algebra.specs.Numbers.{IsNarrow}
use Rattle.bz_num.specs.Fold.{IsNarrowSum}
use Rattle.bz_model.specs.declared.BlockPart.{BlockPart}
use Rattle.bz_model.specs.declared.Column.{Column}
use Rattle.bz_model.specs.declared.Ineq.{Ineq}
use Rattle.bz_model.specs.declared.Master.{Master}
use Rattle.bz_model.specs.declared.Model.{Model}
use Rattle.bz_model.specs.declared.Parts.{Parts}
use Rattle.bz_model.specs.Parting.{inequalities_of, integers_of, position_of}
use Rattle.bz_model.specs.PartPoints.{HoldsInBlock, HoldsInMaster}
use Rattle.bz_model.specs.Points.{coordinate}
use Rattle.bz_model.specs.PointSums.{row_pairs}
use Rattle.bz_first.specs.Tests.{Test, each_of, test}
use Rattle.bz_tree.specs.Boxes.{Box}
use Rattle.bz_judge.specs.declared.faults.CheckFault.{CheckFault}
use Rattle.bz_judge.specs.declared.faults.CheckFault.TheVariants as fault
use Rattle.bz_judge.specs.IntegerTests.{between_tests}
use Rattle.bz_judge.specs.LeftSides.{left_side_tests}
use Rattle.bz_judge.specs.WideLists.{block_denominator, block_sums, master_sums}

abbrev pub Tests : Type 1
Tests = List (Test CheckFault)

-- inequality n of the master at its point: its sum, its right side times the denominator, and that it holds
abbrev pub in_master_tests : Master → ℕ × Ineq → Tests
in_master_tests master e =
    test (fault.Wide master_sums e.0) (IsNarrowSum (row_pairs e.1.own master.x))
    ∷ test (fault.Wide master_sums e.0) (IsNarrow (e.1.rhs *ℤ master.den))
    ∷ test (fault.Point 0 e.0) (HoldsInMaster master e.1)
    ∷ []

-- the integer column at a position of the master, by its number: at the master's point it is whole, at most its upper
-- end of the box, and at least its lower end; `sides` inequalities stand before the sides of the box
abbrev pub position_tests : Box → Master → ℕ → ℕ × ℕ → Tests
position_tests box master sides e =
    between_tests (sides + 2 * e.0) (coordinate master.x e.1) master.den
    (coordinate box.lower e.0) (coordinate box.upper e.0)

-- an integer column
abbrev pub integer_tests : List ℕ → Box → Master → ℕ → ℕ × (ℕ × Column) → Tests
integer_tests part box master sides e = position_tests box master sides (e.0, position_of part e.1.0)

-- inequality n of block b: its left side, its right side times the block's denominator, and that it holds
abbrev pub in_block_tests : Master → ℕ → BlockPart → ℕ × Ineq → Tests
in_block_tests master b block e =
    left_side_tests (fault.Wide block_sums e.0) master block e.1
    ++ test (fault.Wide block_sums e.0) (IsNarrow (e.1.rhs *ℤ (master.den *ℤ block.times)))
    ∷ test (fault.Point b e.0) (HoldsInBlock master block e.1)
    ∷ []

-- block b: its denominator, and its inequalities
abbrev pub block_tests : Model → List ℕ → Master → ℕ × BlockPart → Tests
block_tests m part master e =
    test (fault.Wide block_denominator e.0) (IsNarrow (master.den *ℤ e.1.times))
    ∷ each_of (in_block_tests master e.0 e.1) (enumerate_from 0 (inequalities_of m part e.0))

-- all blocks
abbrev pub blocks_tests : Model → List ℕ → Master → List BlockPart → Tests
blocks_tests m part master blocks = each_of (block_tests m part master) (enumerate_from 1 blocks)

-- all integer columns
abbrev pub integers_tests : Model → List ℕ → Box → Master → Tests
integers_tests m part box master =
    each_of (integer_tests part box master (length (inequalities_of m part 0))) (enumerate_from 0 (integers_of m))

-- the point of the parts: the master's inequalities, the integer columns, and the blocks
abbrev pub point_tests : Model → List ℕ → Box → Parts → Tests
point_tests m part root parts =
    each_of (in_master_tests parts.master) (enumerate_from 0 (inequalities_of m part 0))
    ++ integers_tests m part root parts.master
    ++ blocks_tests m part parts.master parts.blocks
