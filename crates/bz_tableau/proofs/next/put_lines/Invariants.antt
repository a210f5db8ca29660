-- What is still to be put in place, with what is there, is the whole.
use Rattle.std.proofs.Common.{◌≡◌, ◌≤◌, length}
use Rattle.bz_tableau.specs.Pivots.{replaced}
use Rattle.bz_tableau.proofs.Turns.{put_with}
use Rattle.bz_tableau.proofs.next.put_lines.Given as goal

abbrev pub invariant-loop-change : goal.invariant-loop-change
invariant-loop-change l = record {
  whole : put_with l.rows.items l.changes.items ≡ replaced l.initial.rows.items l.initial.changes.items;
  few : length l.changes.items ≤ length l.rows.items;
}

abbrev pub decreases-loop-change : goal.decreases-loop-change
decreases-loop-change l = length l.changes.items
