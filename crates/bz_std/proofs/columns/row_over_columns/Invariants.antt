-- What is pushed, with what is still to come, is the whole.
use Rattle.std.proofs.Common.{◌≡◌, ◌++◌, drop}
use Rattle.bz_std.specs.Posed.{over_columns}
use Rattle.bz_std.proofs.columns.row_over_columns.Given as goal

abbrev pub invariant-loop-entry : goal.invariant-loop-entry
invariant-loop-entry l =
    l.entries.items ++ over_columns (drop l.entry-index l.entry-items) ≡ over_columns l.entry-items
