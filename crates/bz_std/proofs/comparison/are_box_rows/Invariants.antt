-- What is left of the rows is that of the later columns exactly where all are those of all columns.
use Rattle.bz_model.specs.Parting.{width_of}
use Rattle.bz_std.proofs.BoxCompared.{StillBox}
use Rattle.bz_std.proofs.comparison.are_box_rows.Given as goal

abbrev pub invariant-loop-position : goal.invariant-loop-position
invariant-loop-position l = StillBox l.split (width_of l.split.part 0) (record { lower = l.lower; upper = l.upper }) l.rows l.k l.position
