-- The first place where the rows aren't level tells their order.
use Rattle.std.proofs.Common.{◌∙◌, sym, suc, ◌<◌, length, arith, rules, add-one, FitsSigned, to_z-of_z}
use Rattle.std.specs.Int.{w128}
use Rattle.bz_tableau.specs.Tables.{shown}
use Rattle.bz_lex.specs.TableStages.{shown_order}
use Rattle.bz_lex.proofs.PhaseSteps.{first_count, rows_told, rows_level, not_equal, is_equal}
use Rattle.bz_lex.proofs.leaving.cmp_rows.Goals as goal

pub returns-then-ne : goal.returns-then-ne
returns-then-ne c =
    let entry_fits : FitsSigned w128 c.entry-entry.result = search rules in
    let other_fits : FitsSigned w128 c.entry-other_entry.result = search rules in
    let number_fits : FitsSigned w128 c.number_at.result = search rules in
    let number_fits_too : FitsSigned w128 c.number_at-in-loop-place.result = search rules in
    let compared = rw (to_z-of_z entry_fits, to_z-of_z other_fits, to_z-of_z number_fits, to_z-of_z number_fits_too, c.entry-entry.ensures.value, c.entry-other_entry.ensures.value, c.number_at.ensures, c.number_at-in-loop-place.ensures) at c.cmp_quotients-order.ensures in
    let inside : c.loop-place.place < suc (length c.args.tableau.now.basis) = omega (arith, c.loop-place-test.true, first_count c.args.first.now c.args.tableau.now c.requires.phase) in
    rows_told (suc (length c.args.tableau.now.basis)) c.loop-place.place (shown_order c.args.tableau.now c.args.first.now) c.args.column (shown c.args.tableau.now c.args.row) (shown c.args.tableau.now c.args.other) c.cmp_quotients-order.result
    inside c.loop-place.invariant compared (not_equal c.cmp_quotients-order.result (sym c.ne.ensures ∙ c.if-ne.true))

pub loop-place-preserved : goal.loop-place-preserved
loop-place-preserved c =
    let entry_fits : FitsSigned w128 c.entry-entry.result = search rules in
    let other_fits : FitsSigned w128 c.entry-other_entry.result = search rules in
    let number_fits : FitsSigned w128 c.number_at.result = search rules in
    let number_fits_too : FitsSigned w128 c.number_at-in-loop-place.result = search rules in
    let compared = rw (to_z-of_z entry_fits, to_z-of_z other_fits, to_z-of_z number_fits, to_z-of_z number_fits_too, c.entry-entry.ensures.value, c.entry-other_entry.ensures.value, c.number_at.ensures, c.number_at-in-loop-place.ensures) at c.cmp_quotients-order.ensures in
    rw add-one (rows_level c.loop-place.place (shown_order c.args.tableau.now c.args.first.now) c.args.column (shown c.args.tableau.now c.args.row) (shown c.args.tableau.now c.args.other) c.cmp_quotients-order.result
    c.loop-place.invariant compared (is_equal c.cmp_quotients-order.result (sym c.ne.ensures ∙ c.if-ne.false)))
