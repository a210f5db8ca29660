use Rattle.std.proofs.Common.{rules, ◌≡◌, sym, ◌<◌, ◌+◌, length, pos, ℤ, ◌+ℤ◌, ◌*ℤ◌, neg_ℤ, true, false, arith, get_or, FitsSigned, to_z-of_z}
use Rattle.std.specs.Int.{w128}
use Rattle.std.proofs.lemmas.Int.{fits_signed_from_abs}
use Rattle.bz_num.specs.Fold.{fold_of, goes_wide}
use Rattle.bz_num.specs.Row.{IsSparse}
use Rattle.bz_num.proofs.Reduces.{narrow-at}
use Rattle.bz_num.proofs.Rows.{below_at}
use Rattle.bz_model.specs.Points.{coordinate}
use Rattle.bz_std.specs.Tasks.{right_pairs}
use Rattle.bz_std.proofs.RightSides.{next_taken, next_wide}
use Rattle.bz_std.proofs.separation.right_side.Goals as goal

pub bounds-x-entry : goal.bounds-x-entry
bounds-x-entry c = rw c.as_slice-x.ensures (below_at (length c.args.point.now.x) c.as_slice-entry-items.result.now c.loop-entry.entry-index (0, pos 0) (rw c.as_slice-entry-items.ensures.value c.requires) c.loop-entry-test.true)

pub push_less-requires-clause-narrow : goal.push_less-requires-clause-narrow
push_less-requires-clause-narrow c =
    let es = c.as_slice-entry-items.result.now in
    let i = c.loop-entry.entry-index in
    let sparse : IsSparse es = rw c.as_slice-entry-items.ensures.value c.as_slice-entry-items.ensures.sparse in
    let narrow = narrow-at 0 es i (0, pos 0) sparse c.loop-entry-test.true in
    let fits : FitsSigned w128 (get_or es i (0, pos 0)).1 = fits_signed_from_abs w128 (get_or es i (0, pos 0)).1 narrow in
    rw (to_z-of_z fits) narrow

pub returns-in_err-push_less-clause-value : goal.returns-in_err-push_less-clause-value
returns-in_err-push_less-clause-value c =
    let es = c.as_slice-entry-items.result.now in
    let i = c.loop-entry.entry-index in
    let sparse : IsSparse es = rw c.as_slice-entry-items.ensures.value c.as_slice-entry-items.ensures.sparse in
    let fits : FitsSigned w128 (get_or es i (0, pos 0)).1 = fits_signed_from_abs w128 (get_or es i (0, pos 0)).1 (narrow-at 0 es i (0, pos 0) sparse c.loop-entry-test.true) in
    let by : ℤ = coordinate c.args.point.now.x (get_or es i (0, pos 0)).0 in
    let fits_by : FitsSigned w128 by = search rules in
    let goes : goes_wide c.loop-entry.folding.sum (neg_ℤ (get_or es i (0, pos 0)).1, by) ≡ true = sym (rw (c.as_slice-x.ensures, to_z-of_z fits, to_z-of_z fits_by) at c.in_err-push_less.ensures.fails) in
    next_wide es i (coordinate c.args.point.now.x) c.loop-entry.folding.count c.loop-entry.folding.sum (fold_of (right_pairs c.args.point.now c.args.ineq.now)) c.in_err-push_less.field-0.0 c.from_residual-in_err-push_less.result c.from_residual-in_err-push_less.ensures.1 c.in_err-push_less.ensures.place c.loop-entry-test.true goes c.loop-entry.invariant.rest

pub loop-entry-preserved : goal.loop-entry-preserved
loop-entry-preserved c =
    let es = c.as_slice-entry-items.result.now in
    let i = c.loop-entry.entry-index in
    let sparse : IsSparse es = rw c.as_slice-entry-items.ensures.value c.as_slice-entry-items.ensures.sparse in
    let fits : FitsSigned w128 (get_or es i (0, pos 0)).1 = fits_signed_from_abs w128 (get_or es i (0, pos 0)).1 (narrow-at 0 es i (0, pos 0) sparse c.loop-entry-test.true) in
    let by : ℤ = coordinate c.args.point.now.x (get_or es i (0, pos 0)).0 in
    let fits_by : FitsSigned w128 by = search rules in
    let goes : goes_wide c.loop-entry.folding.sum (neg_ℤ (get_or es i (0, pos 0)).1, by) ≡ false = sym (rw (c.as_slice-x.ensures, to_z-of_z fits, to_z-of_z fits_by) at c.in_ok-push_less.ensures.fails) in
    let sum : c.push_less.new.folding.sum ≡ c.loop-entry.folding.sum +ℤ (neg_ℤ (get_or es i (0, pos 0)).1 *ℤ by) = rw (c.as_slice-x.ensures, to_z-of_z fits, to_z-of_z fits_by) at c.in_ok-push_less.ensures.sum in
    record {
      few = omega (arith, c.loop-entry.invariant.few, c.in_ok-push_less.ensures.count);
      rest = rw (c.in_ok-push_less.ensures.count, sum) (next_taken es i (coordinate c.args.point.now.x) c.loop-entry.folding.count c.loop-entry.folding.sum (fold_of (right_pairs c.args.point.now c.args.ineq.now)) c.loop-entry-test.true goes c.loop-entry.invariant.rest);
    }
