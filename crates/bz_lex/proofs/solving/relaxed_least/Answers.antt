-- The first phase doesn't fall.
use Rattle.std.proofs.Common.{true}
use Rattle.bz_lex.proofs.EndsOfPhases.{phase_tableau, no_fall}
use Rattle.bz_lex.proofs.PhaseTurns.{on_phase_first}
use Rattle.bz_lex.proofs.solving.relaxed_least.Goals as goal

pub unreachable-requires : goal.unreachable-requires
unreachable-requires c = no_fall c.args.lp.now c.run_phase.new.tableau (phase_tableau true c.args.lp.now c.in_ok-tableau.tableau c.run_phase.new.tableau c.in_ok-tableau.ensures.tableau c.run_phase.ensures.table) c.in-Falls.column (rw c.in-Falls.is at c.in_ok-run_phase.ensures.end)

pub run_phase-requires : goal.run_phase-requires
run_phase-requires c = on_phase_first true c.args.lp.now c.in_ok-tableau.tableau c.in_ok-tableau.ensures.tableau c.in_ok-tableau.ensures.point
