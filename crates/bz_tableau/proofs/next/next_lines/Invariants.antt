-- The rows so far are made.
use Rattle.std.proofs.Common.{◌≡◌, length}
use Rattle.bz_tableau.specs.Pivots.{replaced}
use Rattle.bz_tableau.proofs.Turns.{AreLinesTo}
use Rattle.bz_tableau.proofs.next.next_lines.Given as goal

abbrev pub invariant-loop-i : goal.invariant-loop-i
invariant-loop-i l = record {
  lines : AreLinesTo l.i l.slack l.basis l.rows l.r l.e (replaced l.rows l.changes.items);
  count : length l.changes.items ≡ l.i;
}
