-- What is left to judge stands for the whole.
use Rattle.std.proofs.Common.{drop}
use Rattle.std.specs.List.{enumerate_from}
use Rattle.bz_first.specs.Tests.{each_of}
use Rattle.bz_first.proofs.TestLemmas.{Reduces}
use Rattle.bz_first.proofs.each.judge_each.Given as goal

abbrev pub invariant-loop-place : goal.invariant-loop-place
invariant-loop-place g l = Reduces (each_of (g.T.ItemTests.tests l.tests) (drop l.place (enumerate_from l.from l.items))) (each_of (g.T.ItemTests.tests l.tests) (enumerate_from l.from l.items))
