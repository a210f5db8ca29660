-- What was written with the lines still to come is the whole.
use Rattle.std.proofs.Common.{drop, ◌≡◌, ◌++◌}
use Rattle.bz_report.specs.Reports.{column_lines, number_of}
use Rattle.bz_report.proofs.points.add_steps.Given as goal

abbrev pub invariant-lines : goal.invariant-lines
invariant-lines l =
    l.page.text.items ++ column_lines (number_of l.steps) l.place (drop l.place l.columns)
    ≡ l.initial.page.text.items ++ column_lines (number_of l.steps) 0 l.columns
