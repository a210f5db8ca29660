-- The numbers so far are there.
use Rattle.std.proofs.Common.{◌≡◌, ◌<◌, ℕ}
use Rattle.bz_algebra.specs.Sums.{AllBelow, coef}
use Rattle.bz_num.specs.Row.{IsSparse}
use Rattle.bz_tableau.specs.First.{first_number}
use Rattle.bz_tableau.specs.Programs.{lp_equations}
use Rattle.bz_tableau.proofs.first.first_line.Given as goal

abbrev pub invariant-loop-j : goal.invariant-loop-j
invariant-loop-j l = record {
  numbers : (k : ℕ) → k < l.j → coef l.terms k ≡ first_number (lp_equations l.relaxed l.lp) l.i k;
  sparse : IsSparse l.terms;
  below : AllBelow l.j l.terms;
}
