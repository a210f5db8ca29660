-- What the solution of a separation's program stops at, and what is carried.
use Rattle.std.specs.Prelude.{ℕ, zero, suc, ◌<◌, ◌≤◌, ◌≡◌, List, [], ◌∷◌, Result, Ok, Err, Some, IfOk, IfErr}
use Rattle.std.specs.Result.{IsErrAnd}
use Rattle.std.proofs.Common.{refl, sym, subst}
use Rattle.bz_model.specs.declared.Ineq.{Ineq}
use Rattle.bz_model.specs.declared.Master.{Master}
use Rattle.bz_model.specs.declared.Model.{Model}
use Rattle.bz_model.specs.Parting.{blocks_of, inequalities_of}
use Rattle.bz_cut.specs.declared.Mode.{Mode}
use Rattle.bz_tableau.specs.Stops.{IsOfRelaxed, IsTrueRelaxedStop, IsTrueWide}
use Rattle.bz_tableau.specs.declared.answers.LpStop.{LpStop}
use Rattle.bz_tableau.specs.declared.answers.LpStop.TheVariants.{Wide, OutOfMemory}
use Rattle.bz_tableau.specs.declared.answers.WideAt.{WideAt}
use Rattle.bz_tableau.specs.declared.answers.WideAt.TheVariants.{Build, Pivot, Den, Fold}
use Rattle.bz_tableau.specs.declared.programs.Lp.{Lp}
use Rattle.bz_std.specs.declared.stops.BuildStop.{BuildStop}
use Rattle.bz_std.specs.declared.stops.BuildStop.TheVariants as build
use Rattle.bz_std.specs.Stops.{IsFirstWideRow, StopsBuilding}
use Rattle.bz_std.specs.Tasks.{IsMasterOf, IsSeparationLp}
use Rattle.bz_event.specs.declared.answers.SepAnswer.{SepAnswer}
use Rattle.bz_event.specs.declared.tasks.TaskName.TheVariants as name
use Rattle.bz_event.specs.Carried.{carried}
use Rattle.bz_event.specs.Separations.{SolvesSeparation}
use Rattle.bz_event.specs.Stops.{EndsSeparation, IsNoProgram, IsWideInSeparation, IsWideRow, NamesFirstRow}
use Rattle.bz_sep.specs.Outcomes.{Answers, unbuilt}

-- the first wide right side is a wide one
first_is_wide : (point : Master) (is : List Ineq) (row : ℕ) → IsFirstWideRow point is row → IsWideRow point is row
first_is_wide point is row h = record { inside = h.inside; wide = h.wide }

module _ (m : Model) (part : List ℕ) (b : ℕ) (point : Master) (way : Mode) (lp : Lp) where
  -- ---- wide places of the solution
  relaxed_stop : (at : WideAt) → IsSeparationLp m part point b way lp → IsTrueWide lp at → IsOfRelaxed at → IsWideInSeparation m part b point way lp at × NamesFirstRow m part b point lp at
  relaxed_stop (Build row) s h o = absurd h
  relaxed_stop (Pivot relaxed basis goal row pivot_row column) s h o = ((s, h, o), tt)
  relaxed_stop (Den relaxed basis at) s h o = ((s, h, o), tt)
  relaxed_stop (Fold relaxed basis column list at) s h o = absurd h

  stop_is : (stop : LpStop) → IsSeparationLp m part point b way lp → IsTrueRelaxedStop lp stop → Answers m part b point way lp (Err stop)
  stop_is (Wide at) s h = relaxed_stop at s h.0 h.1
  stop_is OutOfMemory s h = tt

  pub stop_passed : (stop : LpStop) (result : Result SepAnswer LpStop) → IsErrAnd result (λ g. g ≡ stop) → IsSeparationLp m part point b way lp → IsTrueRelaxedStop lp stop → Answers m part b point way lp result
  stop_passed stop (Ok a) told s h = absurd told
  stop_passed stop (Err g) told s h = subst (λ (e : LpStop). Answers m part b point way lp (Err e)) (sym told) (stop_is stop s h)

  -- ---- a program that wasn't built
  pub unbuilt_is : (stop : BuildStop) → IsNoProgram lp → StopsBuilding point (inequalities_of m part b) stop → Answers m part b point way lp (Err (unbuilt stop))
  unbuilt_is (build.Wide at) none h = subst (λ (w : WideAt). IsWideInSeparation m part b point way lp w × NamesFirstRow m part b point lp w) (sym h.1)
      ((record { columns = none.columns; rows = none.rows }, first_is_wide point (inequalities_of m part b) h.0 h.2), (none, h.2))
  unbuilt_is build.OutOfMemory none h = tt

  -- ---- what is carried
  module _ (post : ℕ) (first : 0 < b) (last : b ≤ blocks_of part) (fits : IsMasterOf part point) where
    pub carried_solves : (found : Result SepAnswer LpStop) → Answers m part b point way lp found → IfOk (carried (name.Sep post b) (Some point) lp found) (SolvesSeparation m part post b point way)
    carried_solves (Ok a) h = record { task = refl; first = first; last = last; point_is = refl; fits = fits; program = h.0; answer = h.1 }
    carried_solves (Err (Wide at)) h = tt
    carried_solves (Err OutOfMemory) h = tt

    pub carried_ends : (found : Result SepAnswer LpStop) → Answers m part b point way lp found → IfErr (carried (name.Sep post b) (Some point) lp found) (EndsSeparation m part post b point way)
    carried_ends (Ok a) h = tt
    carried_ends (Err (Wide at)) h = (record { task = refl; first = first; last = last; point_is = refl; fits = fits; wide = h.0 }, h.1)
    carried_ends (Err OutOfMemory) h = tt
