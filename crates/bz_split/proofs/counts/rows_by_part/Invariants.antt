-- What is counted for each part, with what is still to come, is the whole.
use Rattle.std.proofs.Common.{drop}
use Rattle.bz_split.proofs.RowCounts.{AreCounts}
use Rattle.bz_split.proofs.counts.rows_by_part.Given as goal

abbrev pub invariant-loop-home : goal.invariant-loop-home
invariant-loop-home l = AreCounts l.split.part l.counts.items (drop l.home-index l.home-items) l.home-items
