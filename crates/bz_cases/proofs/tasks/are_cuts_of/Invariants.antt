-- All that is left passes exactly where all pass.
use Rattle.std.proofs.Common.{drop}
use Rattle.bz_first.proofs.Facts.{Remains}
use Rattle.bz_std.specs.Tasks.{IsCutOfSplit}
use Rattle.bz_cases.proofs.tasks.are_cuts_of.Given as goal

abbrev pub invariant-loop-cut : goal.invariant-loop-cut
invariant-loop-cut l = Remains (IsCutOfSplit l.split.part) (drop l.cut-index l.cuts) l.cuts
