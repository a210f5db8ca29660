use Rattle.std.proofs.Common.{length, ◌-◌, ◌≤◌, ◌≡◌, take}
use Rattle.bz_io.specs.Told.{WhereTold}
use Rattle.bz_io.specs.Sink.{Takes}
use Rattle.bz_io.proofs.sink.put_all.Given as goal

abbrev pub invariant-loop-sent : goal.invariant-loop-sent
invariant-loop-sent g l = record {
  within : l.sent ≤ length l.bytes;
  taken : WhereTold (Takes (take l.sent l.bytes)) (g.O.Sink.taken l.initial.out) (g.O.Sink.taken l.out);
  count : (g.O.Sink.faults l.out).number ≡ (g.O.Sink.faults l.initial.out).number;
}

abbrev pub decreases-loop-sent : goal.decreases-loop-sent
decreases-loop-sent g l = length l.bytes - l.sent
