-- The tableau stays one of the program.
use Rattle.bz_tableau.specs.Tables.{IsTableauOf}
use Rattle.bz_programs.proofs.solving.check.Given as goal

abbrev pub invariant-loop-row : goal.invariant-loop-row
invariant-loop-row g l = IsTableauOf l.relaxed l.lp l.tableau
