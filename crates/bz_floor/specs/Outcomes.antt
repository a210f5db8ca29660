-- What the solution of a floor's program comes to.
use Rattle.std.specs.Prelude.{ℕ, ◌<◌, ◌≡◌, ℤ, pos, List, Option, Some, None, Result, Ok, Err, false}
use Rattle.bz_model.specs.declared.Model.{Model}
use Rattle.bz_model.specs.Parting.{width_of}
use Rattle.bz_cut.specs.declared.Cut.{Cut}
use Rattle.bz_judge.specs.declared.faults.CheckFault.{CheckFault}
use Rattle.bz_judge.specs.declared.faults.CheckFault.TheVariants as fault
use Rattle.bz_judge.specs.WideLists.{cut_sums}
use Rattle.bz_tableau.specs.declared.answers.LpStop.{LpStop}
use Rattle.bz_tableau.specs.declared.answers.LpStop.TheVariants.{Wide, OutOfMemory}
use Rattle.bz_tableau.specs.declared.answers.WideAt.TheVariants.{Fold}
use Rattle.bz_tableau.specs.declared.programs.Lp.{Lp}
use Rattle.bz_std.specs.declared.making.MakeStop.{MakeStop}
use Rattle.bz_std.specs.declared.making.MakeStop.TheVariants as make
use Rattle.bz_event.specs.declared.answers.FloorAnswer.{FloorAnswer}
use Rattle.bz_event.specs.declared.answers.FloorAnswer.TheVariants as answer
use Rattle.bz_event.specs.Failing.{Fails}
use Rattle.bz_event.specs.Floors.{IsFloorAnswer, IsFloorRay, placed}
use Rattle.bz_event.specs.Stops.{IsPrimitiveOf, IsWideInFloor, direction_tests}

-- ---- in the words of a program's solution
-- the wide sum that is made of the basis's answer, a ray along the column where there is one
abbrev pub wide_sum : List ℕ → Option ℕ → ℕ → ℕ → LpStop
wide_sum basis column list at = Wide (Fold false basis column list at)

-- the cut that was made of the basis's answer
abbrev pub cut_answered : List ℕ → Result Cut MakeStop → Result FloorAnswer LpStop
cut_answered basis (Ok cut) = Ok (answer.Floor basis cut)
cut_answered basis (Err make.Wide) = Err (wide_sum basis None cut_sums 0)
cut_answered basis (Err make.OutOfMemory) = Err OutOfMemory

-- the direction that was made of the basis's ray; its faults name a wide number or want of memory
abbrev pub ray_answered : List ℕ → ℕ → Result (List ℤ) CheckFault → Result FloorAnswer LpStop
ray_answered basis column (Ok d) = Ok (answer.Ray d)
ray_answered basis column (Err (fault.Wide list at)) = Err (wide_sum basis (Some column) list at)
ray_answered basis column (Err _) = Err OutOfMemory

-- ---- directions
-- some of the first n numbers isn't 0
abbrev pub IsMoving : ℕ → (ℕ → ℤ) → Type 0
IsMoving n f = ¬ ((j : ℕ) → j < n → f j ≡ pos 0)

-- the sum that is named of the direction f, divided by its greatest common divisor, is wide
pub record IsWideDirection (m : Model) (part : List ℕ) (b : ℕ) (f : ℕ → ℤ) (list at : ℕ) : Type 0 where
  pub d : List ℤ
  pub direction : IsPrimitiveOf (width_of part b) f d
  pub wide : Fails (direction_tests m (placed part b d)) (fault.Wide list at)

-- the direction is that of the block's ray, or a sum is wide of the one that f makes
abbrev pub Directs : Model → List ℕ → ℕ → (ℕ → ℤ) → Result (List ℤ) CheckFault → Type 0
Directs m part b f (Ok d) = IsFloorRay m part b d
Directs m part b f (Err (fault.Wide list at)) = IsWideDirection m part b f list at
Directs m part b f (Err fault.OutOfMemory) = Unit {0}
Directs m part b f (Err _) = ⊥

-- ---- answers
-- the answer is one of the floor, whose program is lp, or the floor stops at the wide place
abbrev pub Answers : Model → List ℕ → ℕ → Lp → Result FloorAnswer LpStop → Type 0
Answers m part b lp (Ok a) = IsFloorAnswer m part b lp a
Answers m part b lp (Err (Wide at)) = IsWideInFloor m part b lp at
Answers m part b lp (Err OutOfMemory) = Unit {0}
