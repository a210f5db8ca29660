-- What is added, with what is still to come, is the whole.
use Rattle.std.proofs.Common.{◌≡◌, ◌++◌, drop, map}
use Rattle.bz_std.specs.NodeLines.{master_lines}
use Rattle.bz_std.specs.Posed.{line_of, line_over_columns}
use Rattle.bz_std.proofs.nodes.push_master_rows.Given as goal

abbrev pub invariant-loop-ineq : goal.invariant-loop-ineq
invariant-loop-ineq l =
    map line_of l.rows.items ++ map line_over_columns (master_lines l.width (drop l.ineq-index l.ineqs))
    ≡ map line_of l.initial.rows.items ++ map line_over_columns (master_lines l.width l.ineqs)
