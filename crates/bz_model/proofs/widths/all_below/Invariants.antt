-- All that is left passes exactly where all pass.
use Rattle.std.proofs.Common.{◌↔◌, drop}
use Rattle.bz_algebra.specs.Sums.{AllBelow}
use Rattle.bz_model.proofs.widths.all_below.Given as goal

abbrev pub invariant-loop-entry : goal.invariant-loop-entry
invariant-loop-entry l = AllBelow l.count (drop l.entry-index l.row) ↔ AllBelow l.count l.row
