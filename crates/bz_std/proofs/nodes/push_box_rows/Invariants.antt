-- What is added, with what is still to come, is the whole.
use Rattle.std.proofs.Common.{◌≡◌, ◌++◌, drop, map}
use Rattle.std.specs.List.{enumerate_from, flat_map}
use Rattle.bz_tree.specs.LeafSides.{sides_at}
use Rattle.bz_std.specs.NodeLines.{box_lines}
use Rattle.bz_std.specs.Posed.{line_of, line_over_columns}
use Rattle.bz_std.specs.Tasks.{side_line}
use Rattle.bz_std.proofs.nodes.push_box_rows.Given as goal

abbrev pub invariant-loop-k : goal.invariant-loop-k
invariant-loop-k l =
    map line_of l.rows.items ++ map line_over_columns (map (side_line l.width) (flat_map (sides_at (record { lower = l.lower; upper = l.upper })) (enumerate_from l.k (drop l.k l.positions))))
    ≡ map line_of l.initial.rows.items ++ map line_over_columns (box_lines l.width l.positions (record { lower = l.lower; upper = l.upper }))
