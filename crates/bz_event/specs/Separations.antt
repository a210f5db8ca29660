-- What the maker of a separation's answer promises of it.
use Rattle.std.specs.Prelude.{ℕ, ◌≡◌, ◌<◌, ◌≤◌, ℤ, pos, ◌<ℤ◌, List, Option, Some, unsigned_abs, true}
use Rattle.std.specs.Int.{◌∣◌}
use Rattle.std.specs.List.{AllByRecursion}
use Rattle.bz_num.specs.Dense.{DividesRow, entry}
use Rattle.bz_model.specs.declared.BlockPart.{BlockPart}
use Rattle.bz_model.specs.declared.Master.{Master}
use Rattle.bz_model.specs.declared.Model.{Model}
use Rattle.bz_model.specs.Parting.{blocks_of, inequalities_of, inner_cost, terms_in}
use Rattle.bz_model.specs.PartPoints.{BlockHolds, HasBlockShape, HoldsInBlock}
use Rattle.bz_model.specs.PointFits.{FitsBlock, FitsCost}
use Rattle.bz_cut.specs.declared.Cut.{Cut}
use Rattle.bz_cut.specs.declared.Mode.{Mode}
use Rattle.bz_cut.specs.declared.Mode.TheVariants as mode
use Rattle.bz_cut.specs.Cuts.{IsValid}
use Rattle.bz_cut.specs.Fits.{FitsCut}
use Rattle.bz_cut.specs.Points.{CutsOff}
use Rattle.bz_tableau.specs.Answers.{IsLeast}
use Rattle.bz_tableau.specs.Programs.{program_of}
use Rattle.bz_tableau.specs.declared.answers.Vals.{Vals}
use Rattle.bz_tableau.specs.declared.programs.Lp.{Lp}
use Rattle.bz_std.specs.CutsFrom.{IsSeparationCut}
use Rattle.bz_std.specs.CutsOfBases.{CutOf}
use Rattle.bz_std.specs.Meanings.{IsPossible}
use Rattle.bz_std.specs.Tasks.{IsMasterOf, IsSeparationLp, separation}
use Rattle.bz_event.specs.declared.answers.SepAnswer.{SepAnswer}
use Rattle.bz_event.specs.declared.answers.SepAnswer.TheVariants as answer
use Rattle.bz_event.specs.declared.answers.Solved.{Solved}
use Rattle.bz_event.specs.declared.tasks.TaskName.TheVariants as name

-- The point has no completion in the block. The basis answers the relaxed program with a least rise, and the cut is the
-- one of the basis: valid, with no sum or product wide that tells so, and it cuts off the point.
pub record IsCutAnswer (m : Model) (part : List ℕ) (b : ℕ) (point : Master) (way : Mode)
    (lp : Lp) (basis : List ℕ) (cut : Cut) : Type 0 where
  pub z : Vals
  pub y : Vals
  pub least : IsLeast true (program_of lp) basis z y
  pub made : IsSeparationCut m part b way (entry y.num) cut
  pub of_basis : CutOf m part way b basis cut
  pub valid : IsValid m part cut
  pub fits : FitsCut m part cut
  pub cuts_off : CutsOff cut point
  pub impossible : ¬ IsPossible (separation m part point b way)

-- no natural but 1 divides times and all numbers of the part
abbrev pub IsLowestPart : BlockPart → Type 0
IsLowestPart block = (d : ℕ) → d ∣ unsigned_abs block.times → DividesRow d block.y → d ≡ 1

-- in mode Cost the block's inner cost is at most its eta, and no sum is wide that tells so
abbrev pub CompletesCost : Model → List ℕ → ℕ → Master → Mode → BlockPart → Type 0
CompletesCost m part b point mode.Cost block = BlockHolds m part point b block × FitsCost m part point b block
CompletesCost m part b point mode.Point block = Unit {0}

-- The block's part completes the point: the block's inequalities hold, in mode Cost at a cost of at most the block's
-- eta, and no sum or product is wide that tells so.
pub record IsFillAnswer (m : Model) (part : List ℕ) (b : ℕ) (point : Master) (way : Mode) (block : BlockPart)
    : Type 0 where
  pub shape : HasBlockShape part (b, block)
  pub lowest : IsLowestPart block
  pub rows : AllByRecursion (HoldsInBlock point block) (inequalities_of m part b)
  pub fits : FitsBlock m part point b block
  pub cost : CompletesCost m part b point way block
  pub possible : IsPossible (separation m part point b way)

-- the answer of the separation of block b at the point, whose program is lp
abbrev pub IsSepAnswer : Model → List ℕ → ℕ → Master → Mode → Lp → SepAnswer → Type 0
IsSepAnswer m part b point way lp (answer.Cut basis cut) = IsCutAnswer m part b point way lp basis cut
IsSepAnswer m part b point way lp (answer.Fill block) = IsFillAnswer m part b point way block

-- the separation of block b at the posted point is solved by what is carried
pub record SolvesSeparation (m : Model) (part : List ℕ) (post b : ℕ) (point : Master) (way : Mode)
    (s : Solved SepAnswer) : Type 0 where
  pub task : s.task ≡ name.Sep post b
  pub first : 0 < b
  pub last : b ≤ blocks_of part
  pub point_is : s.point ≡ Some point
  pub fits : IsMasterOf part point
  pub program : IsSeparationLp m part point b way s.lp
  pub answer : IsSepAnswer m part b point way s.lp s.answer

-- some separation is
pub record SolvesSomeSeparation (m : Model) (part : List ℕ) (s : Solved SepAnswer) : Type 0 where
  pub post : ℕ
  pub block : ℕ
  pub point : Master
  pub way : Mode
  pub solves : SolvesSeparation m part post block point way s
