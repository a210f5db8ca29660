-- What the solution of a separation's program comes to.
use Rattle.std.specs.Prelude.{ℕ, List, Result, Ok, Err, None, true}
use Rattle.bz_model.specs.declared.BlockPart.{BlockPart}
use Rattle.bz_model.specs.declared.Master.{Master}
use Rattle.bz_model.specs.declared.Model.{Model}
use Rattle.bz_cut.specs.declared.Cut.{Cut}
use Rattle.bz_cut.specs.declared.Mode.{Mode}
use Rattle.bz_cut.specs.declared.Mode.TheVariants as mode
use Rattle.bz_judge.specs.declared.faults.CheckFault.{CheckFault}
use Rattle.bz_judge.specs.declared.faults.CheckFault.TheVariants as fault
use Rattle.bz_judge.specs.WideLists.{cut_sums}
use Rattle.bz_tableau.specs.declared.answers.LpStop.{LpStop}
use Rattle.bz_tableau.specs.declared.answers.LpStop.TheVariants.{Wide, OutOfMemory}
use Rattle.bz_tableau.specs.declared.answers.Vals.{Vals}
use Rattle.bz_tableau.specs.declared.answers.WideAt.TheVariants.{Fold}
use Rattle.bz_tableau.specs.declared.programs.Lp.{Lp}
use Rattle.bz_std.specs.declared.making.MakeStop.{MakeStop}
use Rattle.bz_std.specs.declared.making.MakeStop.TheVariants as make
use Rattle.bz_std.specs.declared.stops.BuildStop.{BuildStop}
use Rattle.bz_std.specs.declared.stops.BuildStop.TheVariants as build
use Rattle.bz_std.specs.Tasks.{IsSeparationLp}
use Rattle.bz_event.specs.declared.answers.SepAnswer.{SepAnswer}
use Rattle.bz_event.specs.declared.answers.SepAnswer.TheVariants as answer
use Rattle.bz_event.specs.Separations.{IsFillAnswer, IsSepAnswer}
use Rattle.bz_event.specs.Stops.{IsWideFillSum, IsWideInSeparation, NamesFirstRow}

-- how many rows of a separation hold the block's cost to its eta
abbrev pub cost_rows : Mode → ℕ
cost_rows mode.Cost = 1
cost_rows mode.Point = 0

-- ---- in the words of a program's solution
-- why the program wasn't built
abbrev pub unbuilt : BuildStop → LpStop
unbuilt (build.Wide at) = Wide at
unbuilt build.OutOfMemory = OutOfMemory

-- the wide sum that is made of the basis's answer
abbrev pub wide_sum : List ℕ → ℕ → ℕ → LpStop
wide_sum basis list at = Wide (Fold true basis None list at)

-- the cut that was made of the basis's answer
abbrev pub cut_answered : List ℕ → Result Cut MakeStop → Result SepAnswer LpStop
cut_answered basis (Ok cut) = Ok (answer.Cut basis cut)
cut_answered basis (Err make.Wide) = Err (wide_sum basis cut_sums 0)
cut_answered basis (Err make.OutOfMemory) = Err OutOfMemory

-- the fill that was made of the basis's answer; its faults name a wide number or want of memory
abbrev pub fill_answered : List ℕ → Result BlockPart CheckFault → Result SepAnswer LpStop
fill_answered basis (Ok fill) = Ok (answer.Fill fill)
fill_answered basis (Err (fault.Wide list at)) = Err (wide_sum basis list at)
fill_answered basis (Err _) = Err OutOfMemory

-- ---- what is right
-- the fill is an answer, or the wide number is one of the fill that z makes
abbrev pub Fills : Model → List ℕ → ℕ → Master → Mode → Vals → Result BlockPart CheckFault → Type 0
Fills m part b point way z (Ok fill) = IsFillAnswer m part b point way fill
Fills m part b point way z (Err (fault.Wide list at)) = IsWideFillSum m part b point way z list at
Fills m part b point way z (Err fault.OutOfMemory) = Unit {0}
Fills m part b point way z (Err _) = ⊥

-- the answer is one of the separation, whose program is lp, or the separation stops at the wide place,
-- of the right sides at the first
abbrev pub Answers : Model → List ℕ → ℕ → Master → Mode → Lp → Result SepAnswer LpStop → Type 0
Answers m part b point way lp (Ok a) = IsSeparationLp m part point b way lp × IsSepAnswer m part b point way lp a
Answers m part b point way lp (Err (Wide at)) =
    IsWideInSeparation m part b point way lp at × NamesFirstRow m part b point lp at
Answers m part b point way lp (Err OutOfMemory) = Unit {0}
