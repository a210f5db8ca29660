-- The choice of all columns.
use Rattle.std.proofs.Common.{◌≡◌, arith}
use Rattle.bz_tableau.specs.Tables.{factor_column}
use Rattle.bz_lex.proofs.PhaseSteps.{chosen_all}
use Rattle.bz_lex.proofs.entering.entering.Goals as goal

pub returns-clause-chosen : goal.returns-clause-chosen
returns-clause-chosen c =
    let last : c.loop-column.column ≡ factor_column c.args.tableau.now = omega (arith, c.loop-column-test.false, c.loop-column.auto.column-end, c.columns-column-end.ensures.value) in
    let choice = rw (c.in_ok-column.was, last) at c.loop-column.invariant in
    chosen_all c.args.tableau.now c.in_ok-column.column c.in_ok-column.field-0-1 choice
