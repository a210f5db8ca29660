use Rattle.std.proofs.Common.{rules, ◌≡◌, ◌++◌, ℤ, ℕ, get_or, map, FitsSigned, to_z-of_z}
use Rattle.std.specs.Int.{w128}
use Rattle.bz_model.specs.Points.{coordinate}
use Rattle.bz_tree.specs.Boxes.{Box}
use Rattle.bz_std.specs.NodeLines.{box_lines, end_lines}
use Rattle.bz_std.specs.Posed.{line_of, line_over_columns}
use Rattle.bz_std.proofs.NodeRows.{ends_next}
use Rattle.bz_std.proofs.nodes.push_box_rows.Goals as goal

pub loop-k-preserved : goal.loop-k-preserved
loop-k-preserved c =
    let k = c.loop-k.k in
    let box : Box = record { lower = c.args.lower.now; upper = c.args.upper.now } in
    let lower : ℤ = coordinate c.args.lower.now k in
    let upper : ℤ = coordinate c.args.upper.now k in
    let fits : FitsSigned w128 lower = search rules in
    let fits_too : FitsSigned w128 upper = search rules in
    let made : map line_of c.push_ends.new.rows.items ≡ map line_of c.loop-k.rows.items ++ map line_over_columns (end_lines (get_or c.args.positions.now k 0) lower upper) = rw (to_z-of_z fits, to_z-of_z fits_too) at c.in_ok-push_ends.ensures in
    ends_next c.args.width box c.args.positions.now k c.loop-k.rows.items c.push_ends.new.rows.items _ c.loop-k-test.true made c.loop-k.invariant
