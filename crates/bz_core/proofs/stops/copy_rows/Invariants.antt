use Rattle.std.proofs.Common.{◌≡◌, length, take}
use Rattle.std.specs.Vec.{vec_capacity}
use Rattle.bz_core.proofs.stops.copy_rows.Given as goal

abbrev pub invariant-loop-row : goal.invariant-loop-row
invariant-loop-row l = (l.copy.items ≡ take l.row-index l.rows) × (vec_capacity l.copy ≡ length l.rows)
