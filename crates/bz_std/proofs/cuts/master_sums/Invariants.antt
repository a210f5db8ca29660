-- The sums so far are in the list, and none of them is wide.
use Rattle.bz_std.specs.Making.{AreNarrowBelow, master_sum}
use Rattle.bz_std.specs.NumberLists.{HasNumbers}
use Rattle.bz_std.proofs.cuts.master_sums.Given as goal

abbrev pub invariant-loop-position : goal.invariant-loop-position
invariant-loop-position l = record {
  numbers : HasNumbers l.position (master_sum l.mu l.rows) l.sums.items;
  narrow : AreNarrowBelow l.position l.rows l.mu;
}
