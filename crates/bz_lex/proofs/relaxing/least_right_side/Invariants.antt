use Rattle.bz_lex.specs.Ways.{LeastRightTo}
use Rattle.bz_lex.proofs.relaxing.least_right_side.Given as goal

abbrev pub invariant-loop-i : goal.invariant-loop-i
invariant-loop-i l = LeastRightTo l.i l.tableau l.least
