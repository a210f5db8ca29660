-- What is left of both lists is related exactly where they are.
use Rattle.bz_std.specs.Posed.{IsRowOf}
use Rattle.bz_std.specs.Tasks.{falling_line}
use Rattle.bz_std.proofs.ListsCompared.{StillPairwise}
use Rattle.bz_std.proofs.comparison.are_falling_rows.Given as goal

abbrev pub invariant-loop-number : goal.invariant-loop-number
invariant-loop-number l = StillPairwise (λ i. IsRowOf (falling_line i)) l.ineqs l.rows l.number
