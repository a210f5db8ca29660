-- The tableau keeps its shape.
use Rattle.std.proofs.Common.{◌≡◌, ◌+◌, length}
use Rattle.bz_tableau.proofs.tests.check_steps.Given as goal

abbrev pub invariant-loop-step : goal.invariant-loop-step
invariant-loop-step g l = record {
  rows : length l.tableau.basis ≡ l.rows;
  columns : l.tableau.slack + l.rows ≡ l.columns;
}
