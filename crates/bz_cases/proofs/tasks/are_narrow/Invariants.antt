-- All that is left passes exactly where all pass.
use Rattle.std.proofs.Common.{drop}
use Rattle.bz_algebra.specs.Numbers.{IsNarrow}
use Rattle.bz_first.proofs.Facts.{Remains}
use Rattle.bz_cases.proofs.tasks.are_narrow.Given as goal

abbrev pub invariant-loop-number : goal.invariant-loop-number
invariant-loop-number l = Remains IsNarrow (drop l.number-index l.numbers) l.numbers
