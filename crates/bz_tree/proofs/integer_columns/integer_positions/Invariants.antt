-- The positions so far, followed by those of the columns to come, are those of all integer columns.
use Rattle.std.proofs.Common.{◌≡◌}
use Rattle.bz_tree.specs.Integers.{positions_of}
use Rattle.bz_tree.proofs.IntegerPositions.{with_rest}
use Rattle.bz_tree.proofs.integer_columns.integer_positions.Given as goal

abbrev pub invariant-loop-position : goal.invariant-loop-position
invariant-loop-position l = with_rest l.split l.position l.positions.items ≡ positions_of l.split.model l.split.part
