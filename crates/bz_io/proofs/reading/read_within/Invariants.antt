use Rattle.std.proofs.Common.{length, ◌-◌, ◌≤◌}
use Rattle.std.specs.Io.KnownBytes.{Consumes}
use Rattle.bz_io.proofs.reading.read_within.Given as goal

abbrev pub invariant-chunks : goal.invariant-chunks
invariant-chunks g l = record {
  within : length l.bytes.items ≤ l.limit;
  read : Consumes (g.R.Read.remaining l.initial.from.from) (g.R.Read.remaining l.from.from) l.bytes.items;
}

abbrev pub decreases-chunks : goal.decreases-chunks
decreases-chunks g l = l.limit - length l.bytes.items
