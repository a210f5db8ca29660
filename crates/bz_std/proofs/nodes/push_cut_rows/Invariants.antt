-- What is added, with what is still to come, is the whole.
use Rattle.std.proofs.Common.{◌≡◌, ◌++◌, drop, map}
use Rattle.bz_std.specs.NodeLines.{cut_lines}
use Rattle.bz_std.specs.Posed.{line_of, line_over_columns}
use Rattle.bz_std.proofs.nodes.push_cut_rows.Given as goal

abbrev pub invariant-loop-cut : goal.invariant-loop-cut
invariant-loop-cut l =
    map line_of l.rows.items ++ map line_over_columns (cut_lines l.width (drop l.cut-index l.cuts))
    ≡ map line_of l.initial.rows.items ++ map line_over_columns (cut_lines l.width l.cuts)
