-- Some lines were passed, none of which fails; the tables hold their facts, and the other lines are still to come.
use Rattle.std.proofs.Common.{length}
use Rattle.bz_lines.specs.LineReader.{to_come}
use Rattle.bz_facts.proofs.BetweenLines.{IsReading}
use Rattle.bz_facts.proofs.reading.read_lines.Given as goal

abbrev pub invariant-lines : goal.invariant-lines
invariant-lines l = IsReading l.text l.lines l.tables

abbrev pub decreases-lines : goal.decreases-lines
decreases-lines l = length (to_come l.lines)
