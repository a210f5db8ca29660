-- Each turn meets the next column of the two rows.
use Rattle.std.proofs.Common.{rules, FitsSigned, to_z-of_z}
use Rattle.std.specs.Int.{w128}
use Rattle.bz_algebra.specs.Sums.{coef}
use Rattle.bz_tableau.proofs.Clearing.{wide_step}
use Rattle.bz_tableau.proofs.SparseRows.{here_up, there_up, new_below, merged_more, merged_all, smaller}
use Rattle.bz_tableau.proofs.merging.combine.Goals as goal

pub number_at-here-requires-clause-place : goal.number_at-here-requires-clause-place
number_at-here-requires-clause-place c =
    let known = rw (to_z-of_z c.ranges.kept, to_z-of_z c.ranges.taken) at c.loop-column.invariant in
    here_up c.args.kept c.args.row.now c.args.taken c.args.pivot.now c.loop-column.i c.loop-column.k c.loop-column.new c.in-Some.column c.requires.row known c.in-Some.ensures

pub number_at-there-requires-clause-place : goal.number_at-there-requires-clause-place
number_at-there-requires-clause-place c =
    let known = rw (to_z-of_z c.ranges.kept, to_z-of_z c.ranges.taken) at c.loop-column.invariant in
    there_up c.args.kept c.args.row.now c.args.taken c.args.pivot.now c.loop-column.i c.loop-column.k c.loop-column.new c.in-Some.column c.requires.pivot known c.in-Some.ensures

pub push-requires-clause-above : goal.push-requires-clause-above
push-requires-clause-above c =
    let known = rw (to_z-of_z c.ranges.kept, to_z-of_z c.ranges.taken) at c.loop-column.invariant in
    new_below c.args.kept c.args.row.now c.args.taken c.args.pivot.now c.loop-column.i c.loop-column.k c.loop-column.new c.in-Some.column known c.in-Some.ensures

pub returns-in-None : goal.returns-in-None
returns-in-None c =
    let here_fits : FitsSigned w128 c.number_at-here.result = search rules in
    let there_fits : FitsSigned w128 c.number_at-there.result = search rules in
    let wide = rw (to_z-of_z c.ranges.kept, to_z-of_z c.ranges.taken, to_z-of_z here_fits, to_z-of_z there_fits, c.number_at-here.ensures, c.number_at-there.ensures) at c.in-None.ensures in
    record { column = c.in-Some.column; wide = wide_step c.args.kept (coef c.args.row.now c.in-Some.column) c.args.taken (coef c.args.pivot.now c.in-Some.column) wide }

pub place_after-i-requires-clause-place : goal.place_after-i-requires-clause-place
place_after-i-requires-clause-place c =
    let known = rw (to_z-of_z c.ranges.kept, to_z-of_z c.ranges.taken) at c.loop-column.invariant in
    here_up c.args.kept c.args.row.now c.args.taken c.args.pivot.now c.loop-column.i c.loop-column.k c.loop-column.new c.in-Some.column c.requires.row known c.in-Some.ensures

pub place_after-k-requires-clause-place : goal.place_after-k-requires-clause-place
place_after-k-requires-clause-place c =
    let known = rw (to_z-of_z c.ranges.kept, to_z-of_z c.ranges.taken) at c.loop-column.invariant in
    there_up c.args.kept c.args.row.now c.args.taken c.args.pivot.now c.loop-column.i c.loop-column.k c.loop-column.new c.in-Some.column c.requires.pivot known c.in-Some.ensures

pub loop-column-smaller : goal.loop-column-smaller
loop-column-smaller c = smaller c.args.row.now c.args.pivot.now c.loop-column.i c.loop-column.k c.place_after-i.result c.place_after-k.result c.in-Some.column c.in-Some.ensures c.place_after-i.ensures.rises c.place_after-k.ensures.rises c.place_after-i.ensures.passed c.place_after-k.ensures.passed

pub loop-column-preserved : goal.loop-column-preserved
loop-column-preserved c =
    let here_fits : FitsSigned w128 c.number_at-here.result = search rules in
    let there_fits : FitsSigned w128 c.number_at-there.result = search rules in
    let number_fits : FitsSigned w128 c.in-Some-cleared.number = search rules in
    let known = rw (to_z-of_z c.ranges.kept, to_z-of_z c.ranges.taken) at c.loop-column.invariant in
    let value = rw (to_z-of_z c.ranges.kept, to_z-of_z c.ranges.taken, to_z-of_z here_fits, to_z-of_z there_fits, c.number_at-here.ensures, c.number_at-there.ensures) at c.in-Some-cleared.ensures in
    rw (to_z-of_z c.ranges.kept, to_z-of_z c.ranges.taken, c.in_ok-push-in-Some-cleared.ensures.value, to_z-of_z number_fits) (merged_more c.args.kept c.args.row.now c.args.taken c.args.pivot.now c.loop-column.i c.loop-column.k c.loop-column.new c.in-Some.column c.in-Some-cleared.number c.place_after-i.result c.place_after-k.result c.requires.row c.requires.pivot known c.in-Some.ensures value.0 value.1 c.place_after-i.ensures.place c.place_after-k.ensures.place)

pub returns : goal.returns
returns c =
    let known = rw (to_z-of_z c.ranges.kept, to_z-of_z c.ranges.taken) at c.loop-column.invariant in
    let ends = c.in_default.ensures in
    merged_all c.args.kept c.args.row.now c.args.taken c.args.pivot.now c.loop-column.i c.loop-column.k c.loop-column.new c.requires.row c.requires.pivot known ends.0 ends.1
