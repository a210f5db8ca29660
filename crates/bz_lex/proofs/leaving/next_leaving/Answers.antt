-- What one row more makes of the row that leaves.
use Rattle.std.proofs.Common.{pos, ◌<ℤ◌, ◌≤ℤ◌, rules, FitsSigned, to_z-of_z}
use Rattle.std.specs.Int.{w128}
use Rattle.bz_lex.proofs.PhaseSteps.{leaves_same, leaves_lower, leaves_kept}
use Rattle.bz_lex.proofs.leaving.next_leaving.Goals as goal

pub returns-then-entry-le0 : goal.returns-then-entry-le0
returns-then-entry-le0 c =
    let fits : FitsSigned w128 c.entry.result = search rules in
    let test = rw (to_z-of_z fits) at c.if-entry-le0.true in
    let sign : c.entry.result ≤ℤ (pos 0) = search rules in
    leaves_same c.args.row c.args.tableau.now c.args.first.now c.args.column c.args.found c.requires.found (rw c.entry.ensures.value at sign)

pub returns-in-Less : goal.returns-in-Less
returns-in-Less c =
    let fits : FitsSigned w128 c.entry.result = search rules in
    let test = rw (to_z-of_z fits) at c.if-entry-le0.false in
    let sign : (pos 0) <ℤ c.entry.result = search rules in
    leaves_lower c.args.row c.args.tableau.now c.args.first.now c.args.column c.in-Some.other (rw c.in-Some.is at c.requires.found) (rw c.entry.ensures.value at sign) (rw c.in-Less.is at c.cmp_rows.ensures)

pub returns-in-Equal : goal.returns-in-Equal
returns-in-Equal c =
    let fits : FitsSigned w128 c.entry.result = search rules in
    let test = rw (to_z-of_z fits) at c.if-entry-le0.false in
    let sign : (pos 0) <ℤ c.entry.result = search rules in
    leaves_kept c.args.row c.args.tableau.now c.args.first.now c.args.column c.in-Some.other (rw c.in-Some.is at c.requires.found) (rw c.entry.ensures.value at sign) c.cmp_rows.result
    c.requires.phase c.requires.column c.requires.row c.cmp_rows.ensures c.in-Equal.is
