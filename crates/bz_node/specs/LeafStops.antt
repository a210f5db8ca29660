-- The stop of an answer whose leaf is not made.
use Rattle.std.specs.Prelude.{ℕ, Bool, List, None}
use Rattle.bz_judge.specs.WideLists.{leaf_sums}
use Rattle.bz_tableau.specs.declared.answers.LpStop.{LpStop}
use Rattle.bz_tableau.specs.declared.answers.LpStop.TheVariants as lp_stop
use Rattle.bz_tableau.specs.declared.answers.WideAt.TheVariants.{Fold}
use Rattle.bz_std.specs.declared.making.MakeStop.{MakeStop}
use Rattle.bz_std.specs.declared.making.MakeStop.TheVariants as make_stop

-- a wide sum of the leaf of a basis's answer, or want of memory
abbrev pub leaf_stopped : MakeStop → (relaxed : Bool) → (basis : List ℕ) → LpStop
leaf_stopped make_stop.Wide relaxed basis = lp_stop.Wide (Fold relaxed basis None leaf_sums 0)
leaf_stopped make_stop.OutOfMemory relaxed basis = lp_stop.OutOfMemory
