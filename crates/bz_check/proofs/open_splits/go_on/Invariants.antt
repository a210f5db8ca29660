-- What is to come is what was to come before.
use Rattle.std.proofs.Common.{◌≡◌, length}
use Rattle.bz_check.specs.Walks.{IsWalk, box_in, open_in, pending}
use Rattle.bz_check.proofs.open_splits.go_on.Given as goal

abbrev pub invariant-loop-frame : goal.invariant-loop-frame
invariant-loop-frame l = record {
  walk : IsWalk (length l.fn.walk.lower.items) l.walk;
  same : pending (open_in l.walk) (box_in l.walk) ≡ pending (open_in l.fn.walk) (box_in l.fn.walk);
}

abbrev pub decreases-loop-frame : goal.decreases-loop-frame
decreases-loop-frame l = length l.walk.frames.items
