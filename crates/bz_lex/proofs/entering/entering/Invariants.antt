use Rattle.bz_lex.specs.Phases.{IsChoiceOf}
use Rattle.bz_lex.proofs.entering.entering.Given as goal

abbrev pub invariant-loop-column : goal.invariant-loop-column
invariant-loop-column l = IsChoiceOf l.column l.tableau l.choice
