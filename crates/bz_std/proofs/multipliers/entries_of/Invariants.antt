-- The numbers so far are in the row.
use Rattle.bz_num.specs.Dense.{entry}
use Rattle.bz_std.specs.CutsFrom.{AreEntries}
use Rattle.bz_std.proofs.multipliers.entries_of.Given as goal

abbrev pub invariant-loop-place : goal.invariant-loop-place
invariant-loop-place l = AreEntries l.place (entry l.numbers) l.row
