-- What is made, with what is still to come, is the whole.
use Rattle.std.proofs.Common.{◌≡◌, ◌++◌, drop, map}
use Rattle.bz_std.specs.Posed.{line_of, line_over_columns}
use Rattle.bz_std.specs.Tasks.{falling_line}
use Rattle.bz_std.proofs.floors.falling_rows.Given as goal

abbrev pub invariant-loop-ineq : goal.invariant-loop-ineq
invariant-loop-ineq l =
    map line_of l.rows.items ++ map line_over_columns (map falling_line (drop l.ineq-index l.ineqs))
    ≡ map line_over_columns (map falling_line l.ineqs)
