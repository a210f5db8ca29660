use Rattle.std.proofs.Common.{◌-◌, ◌^◌}
use Rattle.bz_io.specs.Trying.{Interrupts}
use Rattle.bz_io.proofs.retrying.write_again.Given as goal

abbrev pub invariant-loop-tries : goal.invariant-loop-tries
invariant-loop-tries g l = record {
  tried : Interrupts (g.W.TryWrite.may_write l.bytes) l.tries l.initial.to l.to;
}

abbrev pub decreases-loop-tries : goal.decreases-loop-tries
decreases-loop-tries g l = (2 ^ 64 - 1) - l.tries
