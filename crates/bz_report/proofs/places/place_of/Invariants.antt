-- The column is in none of the parts so far.
use Rattle.std.proofs.Common.{◌≤◌}
use Rattle.bz_model.specs.Parting.{part_of}
use Rattle.bz_report.proofs.places.place_of.Given as goal

abbrev pub invariant-loop-part : goal.invariant-loop-part
invariant-loop-part l = l.part ≤ part_of l.split.part l.column
