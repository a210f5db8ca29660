-- What is left of both lists is related exactly where they are.
use Rattle.bz_tree.specs.Leaves.{side_of_cut}
use Rattle.bz_std.specs.Posed.{IsRowOf}
use Rattle.bz_std.specs.Tasks.{side_line}
use Rattle.bz_std.proofs.ListsCompared.{StillPairwise}
use Rattle.bz_std.proofs.comparison.are_cut_rows.Given as goal

abbrev pub invariant-loop-number : goal.invariant-loop-number
invariant-loop-number l = StillPairwise (λ cut. IsRowOf (side_line l.width (side_of_cut cut))) l.cuts l.rows l.number
