-- The ends so far are those of the columns so far.
use Rattle.std.proofs.Common.{drop}
use Rattle.bz_tree.specs.Ends.{IsUpperEnd}
use Rattle.bz_tree.proofs.EndLists.{SoFar}
use Rattle.bz_tree.proofs.rounding.upper_ends.Given as goal

abbrev pub invariant-loop-column : goal.invariant-loop-column
invariant-loop-column l = SoFar IsUpperEnd l.columns (drop l.column-index l.columns) l.ends.items
