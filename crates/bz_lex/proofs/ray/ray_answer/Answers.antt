use Rattle.std.proofs.Common.{rules, arith, FitsSigned, to_z-of_z, ◌≡◌}
use Rattle.std.specs.Int.{w128}
use Rattle.bz_tableau.specs.Tables.{factor_column}
use Rattle.bz_lex.specs.Shown.{IsShownOrder}
use Rattle.bz_lex.proofs.Moves.{order_of, wide_move, wide_value, wide_first, wide_second}
use Rattle.bz_lex.proofs.ray.ray_answer.Goals as goal

pub values-requires-clause-divides : goal.values-requires-clause-divides
values-requires-clause-divides c =
    let fits : FitsSigned w128 c.in-Ok.den = search rules in
    let least = rw (c.in-Ok.is, c.as_slice.ensures.value) at c.common_multiple.ensures in
    rw (to_z-of_z fits, c.as_slice-2.ensures.value) least.is_least.multiple

pub direction-requires-clause-order : goal.direction-requires-clause-order
direction-requires-clause-order c =
    let order : IsShownOrder c.args.tableau.now c.in_ok-order.order.items = c.in_ok-order.ensures in
    rw c.as_slice-3.ensures.value (order_of c.args.tableau.now c.in_ok-order.order.items order c.requires.basis)

pub returns-in-Ok-Err : goal.returns-in-Ok-Err
returns-in-Ok-Err c =
    let fits : FitsSigned w128 c.in-Ok.den = search rules in
    let order : IsShownOrder c.args.tableau.now c.in_ok-order.order.items = c.in_ok-order.ensures in
    let least = rw (c.in-Ok.is, c.as_slice.ensures.value) at c.common_multiple.ensures in
    let side_is : c.columns.result ≡ factor_column c.args.tableau.now = c.columns.ensures.value in
    let z = rw (c.in-Ok-Err.is-0, to_z-of_z fits, c.as_slice-2.ensures.value, side_is) at c.in_ok-values.ensures in
    let d = rw (c.in-Ok-Err.is-1, to_z-of_z fits, c.as_slice-3.ensures.value) at c.in_ok-moves.ensures in
    wide_move c.args.tableau.now c.in_ok-order.order.items c.in-Ok.den c.args.column order c.requires.basis least c.in-Ok-Err.k c.in-Ok-Err.field-0-0.items z d

pub returns-in-Err-Ok : goal.returns-in-Err-Ok
returns-in-Err-Ok c =
    let fits : FitsSigned w128 c.in-Ok.den = search rules in
    let order : IsShownOrder c.args.tableau.now c.in_ok-order.order.items = c.in_ok-order.ensures in
    let least = rw (c.in-Ok.is, c.as_slice.ensures.value) at c.common_multiple.ensures in
    let side_is : c.columns.result ≡ factor_column c.args.tableau.now = c.columns.ensures.value in
    let z = rw (c.in-Err-Ok.is-0, to_z-of_z fits, c.as_slice-2.ensures.value, side_is) at c.in_ok-values.ensures in
    let d = rw (c.in-Err-Ok.is-1, to_z-of_z fits, c.as_slice-3.ensures.value) at c.in_ok-moves.ensures in
    wide_value c.args.tableau.now c.in_ok-order.order.items c.in-Ok.den c.args.column order c.requires.basis least c.in-Err-Ok.k c.in-Err-Ok.field-0-1.items z d

pub returns-then-k-l : goal.returns-then-k-l
returns-then-k-l c =
    let fits : FitsSigned w128 c.in-Ok.den = search rules in
    let order : IsShownOrder c.args.tableau.now c.in_ok-order.order.items = c.in_ok-order.ensures in
    let least = rw (c.in-Ok.is, c.as_slice.ensures.value) at c.common_multiple.ensures in
    let side_is : c.columns.result ≡ factor_column c.args.tableau.now = c.columns.ensures.value in
    let z = rw (c.in-Err-Err.is-0, to_z-of_z fits, c.as_slice-2.ensures.value, side_is) at c.in_ok-values.ensures in
    let d = rw (c.in-Err-Err.is-1, to_z-of_z fits, c.as_slice-3.ensures.value) at c.in_ok-moves.ensures in
    wide_first c.args.tableau.now c.in_ok-order.order.items c.in-Ok.den c.args.column order c.requires.basis least c.in-Err-Err.k c.in-Err-Err.l (omega (arith, c.if-k-l.true)) z d

pub returns : goal.returns
returns c =
    let fits : FitsSigned w128 c.in-Ok.den = search rules in
    let order : IsShownOrder c.args.tableau.now c.in_ok-order.order.items = c.in_ok-order.ensures in
    let least = rw (c.in-Ok.is, c.as_slice.ensures.value) at c.common_multiple.ensures in
    let side_is : c.columns.result ≡ factor_column c.args.tableau.now = c.columns.ensures.value in
    let z = rw (c.in-Err-Err.is-0, to_z-of_z fits, c.as_slice-2.ensures.value, side_is) at c.in_ok-values.ensures in
    let d = rw (c.in-Err-Err.is-1, to_z-of_z fits, c.as_slice-3.ensures.value) at c.in_ok-moves.ensures in
    wide_second c.args.tableau.now c.in_ok-order.order.items c.in-Ok.den c.args.column order c.requires.basis least c.in-Err-Err.k c.in-Err-Err.l c.if-k-l.false z d
