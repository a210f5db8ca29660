-- What was made, divided by its greatest common divisor, is the next row.
use Rattle.std.proofs.Common.{rules, subst, ℤ, pos, ◌<ℤ◌, length, FitsSigned, to_z-of_z}
use Rattle.std.specs.Int.{w128}
use Rattle.bz_algebra.specs.Sums.{AllBelow}
use Rattle.bz_tableau.specs.Dense.{entry, IsReduced}
use Rattle.bz_tableau.specs.Sparse.{spread}
use Rattle.bz_tableau.proofs.Clearing.{combined_positive, next_is, wide_row}
use Rattle.bz_tableau.proofs.SparseRows.{combined_of, merged_below, spread_entry, wide_of}
use Rattle.bz_tableau.proofs.next.next_line.Goals as goal

pub reduced_line-requires-clause-sparse : goal.reduced_line-requires-clause-sparse
reduced_line-requires-clause-sparse c =
    let made = rw c.in-Some.is at c.in_ok-new.ensures in
    made.sparse

pub reduced_line-requires-clause-below : goal.reduced_line-requires-clause-below
reduced_line-requires-clause-below c =
    let kept_fits : FitsSigned w128 c.turned_multipliers-times.result.kept = search rules in
    let taken_fits : FitsSigned w128 c.turned_multipliers-times.result.taken = search rules in
    let made = rw (to_z-of_z kept_fits, to_z-of_z taken_fits) at (rw c.in-Some.is at c.in_ok-new.ensures) in
    let there : AllBelow (length c.args.row.now) c.terms-2.result.now = rw c.requires.widths c.terms-2.ensures.below in
    rw c.width.ensures (merged_below c.turned_multipliers-times.result.kept c.terms.result.now c.turned_multipliers-times.result.taken c.terms-2.result.now c.in-Some.new (length c.args.row.now) c.terms.ensures.below there made)

pub reduced_line-requires-clause-positive : goal.reduced_line-requires-clause-positive
reduced_line-requires-clause-positive c =
    let kept_fits : FitsSigned w128 c.turned_multipliers-times.result.kept = search rules in
    let taken_fits : FitsSigned w128 c.turned_multipliers-times.result.taken = search rules in
    let pivot_fits : FitsSigned w128 c.at.result = search rules in
    let row_fits : FitsSigned w128 c.at-2.result = search rules in
    let times = rw (to_z-of_z pivot_fits, to_z-of_z row_fits, c.at.ensures.value, c.at-2.ensures.value) at c.turned_multipliers-times.ensures in
    let made = rw (to_z-of_z kept_fits, to_z-of_z taken_fits) at (rw c.in-Some.is at c.in_ok-new.ensures) in
    let combined = combined_of c.turned_multipliers-times.result.kept c.args.row.now c.turned_multipliers-times.result.taken c.args.pivot.now c.terms.result.now c.terms-2.result.now c.in-Some.new c.requires.widths c.terms.ensures.value c.terms-2.ensures.value made in
    subst (λ (z : ℤ). (pos 0) <ℤ z) (spread_entry (length c.args.row.now) c.in-Some.new c.args.own_column c.requires.own_column)
    (combined_positive (entry c.args.pivot.now c.args.e) (entry c.args.row.now c.args.e) c.turned_multipliers-times.result.kept c.turned_multipliers-times.result.taken c.args.row.now c.args.pivot.now (spread (length c.args.row.now) c.in-Some.new) c.args.own_column times combined c.requires.own_column c.requires.own_positive c.requires.cleared)

pub returns-in-Some : goal.returns-in-Some
returns-in-Some c =
    let kept_fits : FitsSigned w128 c.turned_multipliers-times.result.kept = search rules in
    let taken_fits : FitsSigned w128 c.turned_multipliers-times.result.taken = search rules in
    let pivot_fits : FitsSigned w128 c.at.result = search rules in
    let row_fits : FitsSigned w128 c.at-2.result = search rules in
    let times = rw (to_z-of_z pivot_fits, to_z-of_z row_fits, c.at.ensures.value, c.at-2.ensures.value) at c.turned_multipliers-times.ensures in
    let made = rw (to_z-of_z kept_fits, to_z-of_z taken_fits) at (rw c.in-Some.is at c.in_ok-new.ensures) in
    let combined = combined_of c.turned_multipliers-times.result.kept c.args.row.now c.turned_multipliers-times.result.taken c.args.pivot.now c.terms.result.now c.terms-2.result.now c.in-Some.new c.requires.widths c.terms.ensures.value c.terms-2.ensures.value made in
    let reduced : IsReduced c.args.own_column (spread (length c.args.row.now) c.in-Some.new) c.reduced_line.result = rw c.width.ensures at c.reduced_line.ensures in
    next_is c.turned_multipliers-times.result.kept c.turned_multipliers-times.result.taken c.args.row.now c.args.pivot.now (spread (length c.args.row.now) c.in-Some.new) c.reduced_line.result c.args.e c.args.own_column c.requires.nonzero c.requires.column times combined reduced

pub returns-in-None : goal.returns-in-None
returns-in-None c =
    let kept_fits : FitsSigned w128 c.turned_multipliers-times.result.kept = search rules in
    let taken_fits : FitsSigned w128 c.turned_multipliers-times.result.taken = search rules in
    let pivot_fits : FitsSigned w128 c.at.result = search rules in
    let row_fits : FitsSigned w128 c.at-2.result = search rules in
    let times = rw (to_z-of_z pivot_fits, to_z-of_z row_fits, c.at.ensures.value, c.at-2.ensures.value) at c.turned_multipliers-times.ensures in
    let wide = rw (to_z-of_z kept_fits, to_z-of_z taken_fits) at (rw c.in-None.is at c.in_ok-new.ensures) in
    wide_row c.turned_multipliers-times.result.kept c.turned_multipliers-times.result.taken c.args.row.now c.args.pivot.now c.args.e times (wide_of c.turned_multipliers-times.result.kept c.args.row.now c.turned_multipliers-times.result.taken c.args.pivot.now c.terms.result.now c.terms-2.result.now c.requires.widths c.terms.ensures.value c.terms-2.ensures.value c.terms.ensures.below c.terms-2.ensures.below wide)
