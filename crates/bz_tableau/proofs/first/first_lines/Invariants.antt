-- The rows so far are there.
use Rattle.bz_tableau.specs.First.{AreFirstLinesTo}
use Rattle.bz_tableau.specs.Programs.{lp_equations}
use Rattle.bz_tableau.proofs.first.first_lines.Given as goal

abbrev pub invariant-loop-i : goal.invariant-loop-i
invariant-loop-i l = AreFirstLinesTo l.i (lp_equations l.relaxed l.lp) l.rows.items
