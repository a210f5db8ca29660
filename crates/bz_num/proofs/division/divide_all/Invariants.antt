-- The numbers so far are divided.
use Rattle.bz_num.proofs.DenseRows.{IsDividedTo}
use Rattle.bz_num.proofs.division.divide_all.Given as goal

abbrev pub invariant-loop-j : goal.invariant-loop-j
invariant-loop-j l = IsDividedTo l.j l.divisor l.initial.row l.row
