-- The table holds what the lines so far say, and the fault of those to come is that of all.
use Rattle.std.proofs.Common.{length}
use Rattle.bz_lines.specs.LineReader.{to_come}
use Rattle.bz_part.proofs.PartitionLemmas.{IsReadUpTo}
use Rattle.bz_part.proofs.part_text.read_columns.Given as goal

abbrev pub invariant-loop-numbers : goal.invariant-loop-numbers
invariant-loop-numbers l = IsReadUpTo l.known (to_come l.fn.lines) l.numbers (to_come l.lines)

abbrev pub decreases-loop-numbers : goal.decreases-loop-numbers
decreases-loop-numbers l = length (to_come l.lines)
