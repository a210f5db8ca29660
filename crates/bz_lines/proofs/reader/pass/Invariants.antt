-- The lines to come are those of the whole text, of which so many were read.
use Rattle.std.proofs.Common.{◌≡◌, ◌+◌, ◌<◌, ◌^◌, length}
use Rattle.bz_lines.specs.NumberedLines.{line_count, numbered_after}
use Rattle.bz_lines.proofs.reader.pass.Given as goal

abbrev pub invariant-loop-first : goal.invariant-loop-first
invariant-loop-first l = record {
  same : numbered_after l.number l.text ≡ numbered_after l.read l.rest;
  count : l.read + line_count l.rest ≡ l.number + line_count l.text;
  fits : l.read + length l.rest < 2 ^ 32;
}

abbrev pub decreases-loop-first : goal.decreases-loop-first
decreases-loop-first l = length l.rest
