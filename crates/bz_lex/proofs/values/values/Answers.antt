-- Each turn puts one value in its column.
use Rattle.std.proofs.Common.{rules, arith, FitsSigned, to_z-of_z}
use Rattle.std.specs.Int.{w128}
use Rattle.bz_lex.proofs.BasicValues.{values_more, first_wide_over}
use Rattle.bz_lex.proofs.values.values.Goals as goal

pub value_over-requires-clause-divides : goal.value_over-requires-clause-divides
value_over-requires-clause-divides c =
    let den_fits : FitsSigned w128 c.args.den = c.ranges.den in
    let own_fits : FitsSigned w128 c.own_number.result = search rules in
    rw (to_z-of_z den_fits, to_z-of_z own_fits, c.own_number.ensures.value) (c.requires.divides c.loop-k.k c.loop-k-test.true)

pub bounds-basis-row : goal.bounds-basis-row
bounds-basis-row c = rw c.basis.ensures (c.requires.order.inside c.loop-k.k c.loop-k-test.true)

pub index_mut-requires : goal.index_mut-requires
index_mut-requires c =
    let before = c.requires.order.before_slacks c.loop-k.k c.loop-k-test.true in
    let width = c.loop-k.invariant.width in
    rw c.basis.ensures (omega (arith, before, width, c.loop-k.values.ok))

pub returns-in-None : goal.returns-in-None
returns-in-None c =
    let den_fits : FitsSigned w128 c.args.den = c.ranges.den in
    let own_fits : FitsSigned w128 c.own_number.result = search rules in
    let entry_fits : FitsSigned w128 c.entry.result = search rules in
    let wide = rw (c.in-None.is, to_z-of_z den_fits, to_z-of_z own_fits, to_z-of_z entry_fits, c.own_number.ensures.value, c.entry.ensures.value) at c.value_over.ensures in
    first_wide_over c.loop-k.k c.args.tableau.now c.args.order.now c.args.den c.args.column c.loop-k.values.items c.requires.order (rw (to_z-of_z den_fits) at c.loop-k.invariant) c.loop-k-test.true wide

pub loop-k-preserved : goal.loop-k-preserved
loop-k-preserved c =
    let den_fits : FitsSigned w128 c.args.den = c.ranges.den in
    let own_fits : FitsSigned w128 c.own_number.result = search rules in
    let entry_fits : FitsSigned w128 c.entry.result = search rules in
    let value_fits : FitsSigned w128 c.in-Some.value = search rules in
    let over = rw (c.in-Some.is, to_z-of_z den_fits, to_z-of_z own_fits, to_z-of_z entry_fits, c.own_number.ensures.value, c.entry.ensures.value) at c.value_over.ensures in
    rw (to_z-of_z den_fits, to_z-of_z value_fits, c.basis.ensures) (values_more c.loop-k.k c.args.tableau.now c.args.order.now c.args.den c.args.column c.loop-k.values.items c.in-Some.value c.requires.order (rw (to_z-of_z den_fits) at c.loop-k.invariant) c.loop-k-test.true over)
