-- The second phase ends at a basis that has an answer.
use Rattle.std.proofs.Common.{false, ◌≡◌, subst, sym}
use Rattle.bz_tableau.specs.declared.answers.LpStop.{LpStop}
use Rattle.bz_lex.specs.Refusals.{IsFirstStop}
use Rattle.bz_lex.proofs.EndsOfPhases.{phase_tableau, end_signs}
use Rattle.bz_lex.proofs.PhaseTurns.{on_phase_first}
use Rattle.bz_lex.proofs.Results.{if_err_and}
use Rattle.bz_lex.proofs.solving.finish.Goals as goal

pub returns-in_err-run_phase-clause-refused : goal.returns-in_err-run_phase-clause-refused
returns-in_err-run_phase-clause-refused c = if_err_and {P = λ stop. stop ≡ c.in_err-run_phase.field-0.0} {Q = λ stop. IsFirstStop c.args.lp.now stop} c.from_residual.result c.from_residual.ensures.1
    (λ stop same. subst (λ (x : LpStop). IsFirstStop c.args.lp.now x) (sym same) (c.in_err-run_phase.ensures.stopped.is_true false c.args.lp.now c.requires.tableau))

pub unreachable-requires : goal.unreachable-requires
unreachable-requires c =
    let tableau = phase_tableau false c.args.lp.now c.args.tableau c.run_phase.new.tableau c.requires.tableau c.run_phase.ensures.table in
    let lacks = rw c.in-None.is at c.in_ok-answer.ensures.signs in
    lacks (end_signs c.args.lp.now c.run_phase.new.tableau tableau c.run_phase.ensures.table.point c.in_ok-run_phase.field-0 c.in_ok-run_phase.ensures.end)

pub run_phase-requires : goal.run_phase-requires
run_phase-requires c = on_phase_first false c.args.lp.now c.args.tableau c.requires.tableau c.requires.point
