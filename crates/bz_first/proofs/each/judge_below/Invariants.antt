-- The numbers so far pass.
use Rattle.bz_first.specs.Tests.{AllHold, each_below}
use Rattle.bz_first.proofs.each.judge_below.Given as goal

abbrev pub invariant-loop-n : goal.invariant-loop-n
invariant-loop-n g l = AllHold (each_below l.n (g.T.PlaceTests.tests l.tests))
