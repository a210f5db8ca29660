-- The entries with those that are done multiplied again are the entries at the beginning.
use Rattle.std.proofs.Common.{◌≡◌}
use Rattle.bz_num.proofs.Reduces.{times_first}
use Rattle.bz_num.proofs.row.divide_entries.Given as goal

abbrev pub invariant-loop-entry : goal.invariant-loop-entry
invariant-loop-entry l = record {
  whole : l.initial.entries ≡ times_first l.entry-index l.fn.divisor l.entries;
}
