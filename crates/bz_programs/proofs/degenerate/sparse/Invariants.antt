-- The pairs so far are a row.
use Rattle.bz_algebra.specs.Sums.{AllBelow}
use Rattle.bz_num.specs.Row.{IsSparse}
use Rattle.bz_programs.proofs.degenerate.sparse.Given as goal

abbrev pub invariant-loop-j : goal.invariant-loop-j
invariant-loop-j g l = IsSparse l.pairs.items × AllBelow l.j l.pairs.items
