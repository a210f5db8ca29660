-- The row so far is of the places before this one.
use Rattle.bz_algebra.specs.Sums.{AllBelow}
use Rattle.bz_cases.proofs.cut_rows.row.Given as goal

abbrev pub invariant-loop-place : goal.invariant-loop-place
invariant-loop-place l = AllBelow l.place l.row
