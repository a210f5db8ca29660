-- Why a separation's program is not built.
use Rattle.std.specs.Prelude.{ℕ, ◌≡◌, ◌<◌, ℤ, List, ◌∷◌, length}
use Rattle.bz_num.specs.Fold.{IsNarrowSum, pairs_at}
use Rattle.bz_model.specs.declared.Ineq.{Ineq}
use Rattle.bz_model.specs.declared.Master.{Master}
use Rattle.bz_model.specs.Parting.{negated}
use Rattle.bz_model.specs.Points.{coordinate}
use Rattle.bz_cut.specs.Rows.{master_at, rhs_at}
use Rattle.bz_tableau.specs.declared.WideAt.TheVariants.{Build}
use Rattle.bz_std.specs.declared.stops.BuildStop.{BuildStop}
use Rattle.bz_std.specs.declared.stops.BuildStop.TheVariants as stop
use Rattle.bz_std.specs.Tasks.{right_pairs}

-- what is left of the right side of the inequality at this row, added up in order
abbrev pub right_pairs_at : Master → List Ineq → ℕ → List (ℤ × ℤ)
right_pairs_at point is row =
    (point.den, rhs_at is row) ∷ pairs_at (negated (master_at is row)) (coordinate point.x)

-- the right side of this row is the first whose sum at the point is wide
pub record IsFirstWideRow (point : Master) (is : List Ineq) (row : ℕ) : Type 0 where
  pub inside : row < length is
  pub wide : ¬ IsNarrowSum (right_pairs_at point is row)
  pub first : (k : ℕ) → k < row → IsNarrowSum (right_pairs_at point is k)

-- the row of an inequality is not built for want of memory, or for its own wide right side
abbrev pub StopsAtRow : Master → Ineq → ℕ → BuildStop → Type 0
StopsAtRow point i row stop.OutOfMemory = Unit {0}
StopsAtRow point i row (stop.Wide at) = (at ≡ Build row) × ¬ IsNarrowSum (right_pairs point i)

-- the program is not built for want of memory, or for the first wide right side
abbrev pub StopsBuilding : Master → List Ineq → BuildStop → Type 0
StopsBuilding point is stop.OutOfMemory = Unit {0}
StopsBuilding point is (stop.Wide at) = (row : ℕ) × (at ≡ Build row) × IsFirstWideRow point is row
