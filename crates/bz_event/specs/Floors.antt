-- What the maker of a floor's answer promises of it.
use Rattle.std.specs.Prelude.{ℕ, ◌≡◌, ◌<◌, ◌≤◌, ◌==◌, if◌then◌else◌, ℤ, pos, ◌<ℤ◌, List, length, map, Option, None, false}
use Rattle.std.specs.List.{AllByRecursion, enumerate_from}
use Rattle.bz_num.specs.Dense.{AreNarrow, DividesRow, entry}
use Rattle.bz_num.specs.Fold.{IsNarrowSum}
use Rattle.bz_model.specs.declared.Model.{Model}
use Rattle.bz_model.specs.Parting.{blocks_of, inner_cost, position_of, width_of}
use Rattle.bz_model.specs.PointSums.{row_pairs}
use Rattle.bz_model.specs.Points.{coordinate}
use Rattle.bz_cut.specs.declared.Cut.{Cut}
use Rattle.bz_cut.specs.Cuts.{IsValid}
use Rattle.bz_cut.specs.Fits.{FitsCut}
use Rattle.bz_tableau.specs.Answers.{IsLeast}
use Rattle.bz_tableau.specs.Programs.{program_of}
use Rattle.bz_tableau.specs.declared.answers.Vals.{Vals}
use Rattle.bz_tableau.specs.declared.programs.Lp.{Lp}
use Rattle.bz_std.specs.CutsFrom.{IsCutFrom}
use Rattle.bz_std.specs.Meanings.{IsFallAlong}
use Rattle.bz_std.specs.Posed.{IsProgramOf}
use Rattle.bz_std.specs.Tasks.{floor}
use Rattle.bz_event.specs.declared.answers.FloorAnswer.{FloorAnswer}
use Rattle.bz_event.specs.declared.answers.FloorAnswer.TheVariants as answer
use Rattle.bz_event.specs.declared.answers.Solved.{Solved}
use Rattle.bz_event.specs.declared.tasks.TaskName.TheVariants as name

-- The basis answers the floor program of the block, and its multipliers make the cut: valid, with no sum or product wide
-- that tells so, and with a number above 0 at the eta.
pub record IsFloorCut (m : Model) (part : List ℕ) (b : ℕ) (lp : Lp) (basis : List ℕ) (cut : Cut) : Type 0 where
  pub z : Vals
  pub y : Vals
  pub least : IsLeast false (program_of lp) basis z y
  pub made : IsCutFrom m part b (entry y.num) y.den cut
  pub valid : IsValid m part cut
  pub eta : (pos 0) <ℤ cut.p0
  pub fits : FitsCut m part cut

-- the direction over all columns of the model: d at those of block b, and 0 elsewhere
abbrev pub placed : List ℕ → ℕ → List ℤ → List ℤ
placed part b d = map (λ e. if e.1 == b then coordinate d (position_of part e.0) else pos 0) (enumerate_from 0 part)

-- no sum along the direction is wide: of a row, or of the inner cost
pub record FitsDirection (m : Model) (ray : List ℤ) : Type 0 where
  pub rows : AllByRecursion (λ row. IsNarrowSum (row_pairs row.terms ray)) m.rows
  pub cost : IsNarrowSum (row_pairs (inner_cost m) ray)

-- Along the direction no inequality of the block rises, and its inner cost falls. No natural but 1 divides its numbers,
-- and no sum is wide along it.
pub record IsFloorRay (m : Model) (part : List ℕ) (b : ℕ) (d : List ℤ) : Type 0 where
  pub numbers : length d ≡ width_of part b
  pub narrow : AreNarrow d
  pub primitive : (g : ℕ) → DividesRow g d → g ≡ 1
  pub falls : IsFallAlong (floor m part b) (entry d)
  pub fits : FitsDirection m (placed part b d)

-- the answer of the floor of block b, whose program is lp
abbrev pub IsFloorAnswer : Model → List ℕ → ℕ → Lp → FloorAnswer → Type 0
IsFloorAnswer m part b lp (answer.Floor basis cut) = IsFloorCut m part b lp basis cut
IsFloorAnswer m part b lp (answer.Ray d) = IsFloorRay m part b d

-- the floor of block b is solved by what is carried
pub record SolvesFloor (m : Model) (part : List ℕ) (b : ℕ) (s : Solved FloorAnswer) : Type 0 where
  pub task : s.task ≡ name.Floor b
  pub first : 0 < b
  pub last : b ≤ blocks_of part
  pub point_is : s.point ≡ None
  pub program : IsProgramOf (floor m part b) s.lp
  pub answer : IsFloorAnswer m part b s.lp s.answer

-- some floor is
pub record SolvesSomeFloor (m : Model) (part : List ℕ) (s : Solved FloorAnswer) : Type 0 where
  pub block : ℕ
  pub solves : SolvesFloor m part block s
