-- What was written with the lines still to come is the whole.
use Rattle.std.proofs.Common.{drop, ◌≡◌, ◌++◌}
use Rattle.bz_report.specs.Reports.{column_lines, printed_value}
use Rattle.bz_report.proofs.points.add_values.Given as goal

abbrev pub invariant-lines : goal.invariant-lines
invariant-lines l =
    l.page.text.items ++ column_lines (printed_value l.split l.parts) l.place (drop l.place l.columns)
    ≡ l.initial.page.text.items ++ column_lines (printed_value l.split l.parts) 0 l.columns
