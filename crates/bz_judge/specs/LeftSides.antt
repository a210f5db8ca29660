-- The left side of a block's inequality at a point of the parts.
use Rattle.std.specs.Prelude.{ℕ, ℤ, ◌+ℤ◌, ◌*ℤ◌, List, [], ◌∷◌}
use Rattle.bz_algebra.specs.Sums.{AllBelow, dot}
use Rattle.bz_num.specs.Fold.{IsNarrowSum}
use Rattle.bz_model.specs.declared.BlockPart.{BlockPart}
use Rattle.bz_model.specs.declared.Ineq.{Ineq}
use Rattle.bz_model.specs.declared.Master.{Master}
use Rattle.bz_model.specs.Points.{coordinate}
use Rattle.bz_first.specs.Tests.{Test, test}
use Rattle.bz_judge.specs.declared.faults.CheckFault.{CheckFault}
use Rattle.bz_model.specs.PointSums.{joined_pairs, row_pairs}

-- the inequality speaks of the first so many positions of the master and of the part
pub record FitsLengths (width depth : ℕ) (i : Ineq) : Type 0 where
  pub master : AllBelow width i.master
  pub own : AllBelow depth i.own

-- its left side at x / den with y / (den times), times both
abbrev pub left_side_of : Master → BlockPart → Ineq → ℤ
left_side_of master block i = (block.times *ℤ dot i.master (coordinate master.x)) +ℤ dot i.own (coordinate block.y)

-- the sum in the master, the sum in the block, the first times `times` and then the second together
abbrev pub left_side_tests : CheckFault → Master → BlockPart → Ineq → List (Test CheckFault)
left_side_tests wide master block i =
    test wide (IsNarrowSum (row_pairs i.master master.x))
    ∷ test wide (IsNarrowSum (row_pairs i.own block.y))
    ∷ test wide
    (IsNarrowSum (joined_pairs block.times (dot i.master (coordinate master.x)) (dot i.own (coordinate block.y))))
    ∷ []
