use Rattle.bz_tableau.specs.Tables.{shown}
use Rattle.bz_lex.specs.Lexicographic.{AreLevel}
use Rattle.bz_lex.specs.TableStages.{shown_order}
use Rattle.bz_lex.proofs.leaving.cmp_rows.Given as goal

abbrev pub invariant-loop-place : goal.invariant-loop-place
invariant-loop-place l = AreLevel l.place (shown_order l.tableau l.first) l.column (shown l.tableau l.row) (shown l.tableau l.other)
