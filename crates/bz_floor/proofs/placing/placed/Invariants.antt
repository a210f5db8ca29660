-- The numbers so far stand at their columns, and 0 elsewhere.
use Rattle.bz_floor.proofs.PlacedNumbers.{IsPlacedTo}
use Rattle.bz_floor.proofs.placing.placed.Given as goal

abbrev pub invariant-loop-position : goal.invariant-loop-position
invariant-loop-position l = IsPlacedTo l.fn.split.part l.fn.block l.fn.d l.position l.ray.items
