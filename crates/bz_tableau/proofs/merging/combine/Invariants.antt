-- The columns so far are met; each turn passes a pair.
use Rattle.std.proofs.Common.{◌+◌, ◌-◌, length}
use Rattle.bz_tableau.proofs.SparseRows.{IsMergedTo}
use Rattle.bz_tableau.proofs.merging.combine.Given as goal

abbrev pub invariant-loop-column : goal.invariant-loop-column
invariant-loop-column l = IsMergedTo l.kept l.row l.taken l.pivot l.i l.k l.new

abbrev pub decreases-loop-column : goal.decreases-loop-column
decreases-loop-column l = (length l.row - l.i) + (length l.pivot - l.k)
