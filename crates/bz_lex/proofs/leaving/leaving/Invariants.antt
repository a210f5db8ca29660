use Rattle.bz_lex.specs.Phases.{LeavesOf}
use Rattle.bz_lex.proofs.leaving.leaving.Given as goal

abbrev pub invariant-loop-row : goal.invariant-loop-row
invariant-loop-row l = LeavesOf l.row l.tableau l.first l.column l.found
