-- The basis without s, renumbered, has the same right sides.
use Rattle.bz_lex.proofs.RelaxedLeaving.{renumbered_point}
use Rattle.bz_lex.proofs.unrelaxing.feasible_basis.Goals as goal

pub returns-clause-goal : goal.returns-clause-goal
returns-clause-goal c = renumbered_point c.args.lp.now c.leave_s.new.tableau c.in_ok-leave_s.ensures.tableau c.in_ok-leave_s.ensures.point c.in_ok-leave_s.ensures.left c.in_ok-goal.goal.items (rw c.basis.ensures at c.in_ok-goal.ensures)
