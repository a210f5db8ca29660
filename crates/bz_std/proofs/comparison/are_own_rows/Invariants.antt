-- What is left of both lists is related exactly where they are.
use Rattle.bz_std.specs.Compared.{IsOwnRow}
use Rattle.bz_std.proofs.ListsCompared.{StillPairwise}
use Rattle.bz_std.proofs.comparison.are_own_rows.Given as goal

abbrev pub invariant-loop-number : goal.invariant-loop-number
invariant-loop-number l = StillPairwise (IsOwnRow l.point) l.ineqs l.rows l.number
