-- A refused pivot of the phase.
use Rattle.bz_lex.proofs.PhaseTurns.{refusal_stop, passed_on}
use Rattle.bz_lex.proofs.phase.turn.Goals as goal

pub returns-in_err-pivot-clause-stopped : goal.returns-in_err-pivot-clause-stopped
returns-in_err-pivot-clause-stopped c =
    passed_on c.args.tableau.now c.from_residual.result c.in_err-pivot.field-0.0 c.from_residual.ensures.1
    (refusal_stop c.args.first.now c.args.tableau.now c.in-Some-leaving.row c.in-Some.column c.requires c.in-Some.ensures.enters c.in-Some-leaving.ensures c.in_err-pivot.field-0.0 c.in_err-pivot.ensures.refused)
