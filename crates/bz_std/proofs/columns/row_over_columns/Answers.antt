use Rattle.std.proofs.Common.{rules, ◌≡◌, ◌<◌, length, refl, pos, arith, get_or, FitsSigned, to_z-of_z}
use Rattle.std.specs.Int.{w128}
use Rattle.std.proofs.lemmas.Int.{fits_signed_from_abs}
use Rattle.bz_num.specs.Row.{IsSparse}
use Rattle.bz_num.proofs.Reduces.{narrow-at}
use Rattle.bz_num.proofs.Rows.{below_at}
use Rattle.bz_model.proofs.Sparse.{made_all}
use Rattle.bz_model.specs.Limits.{list_limit}
use Rattle.bz_std.specs.Posed.{over_columns}
use Rattle.bz_std.proofs.OverColumns.{over_next, over_sparse}
use Rattle.bz_std.proofs.columns.row_over_columns.Goals as goal

pub push_pair-requires-clause-few : goal.push_pair-requires-clause-few
push_pair-requires-clause-few c = below_at list_limit c.as_slice-entry-items.result.now c.loop-entry.entry-index (0, pos 0) (rw c.as_slice-entry-items.ensures.value c.requires) c.loop-entry-test.true

pub push_pair-requires-clause-narrow : goal.push_pair-requires-clause-narrow
push_pair-requires-clause-narrow c =
    let es = c.as_slice-entry-items.result.now in
    let i = c.loop-entry.entry-index in
    let sparse : IsSparse es = rw c.as_slice-entry-items.ensures.value c.as_slice-entry-items.ensures.sparse in
    let narrow = narrow-at 0 es i (0, pos 0) sparse c.loop-entry-test.true in
    let fits : FitsSigned w128 (get_or es i (0, pos 0)).1 = fits_signed_from_abs w128 (get_or es i (0, pos 0)).1 narrow in
    rw (to_z-of_z fits) narrow

pub loop-entry-preserved : goal.loop-entry-preserved
loop-entry-preserved c =
    let es = c.as_slice-entry-items.result.now in
    let i = c.loop-entry.entry-index in
    let sparse : IsSparse es = rw c.as_slice-entry-items.ensures.value c.as_slice-entry-items.ensures.sparse in
    let fits : FitsSigned w128 (get_or es i (0, pos 0)).1 = fits_signed_from_abs w128 (get_or es i (0, pos 0)).1 (narrow-at 0 es i (0, pos 0) sparse c.loop-entry-test.true) in
    over_next es i c.loop-entry.entries.items c.push_pair.new.entries.items (over_columns es) c.loop-entry-test.true (rw (to_z-of_z fits) at c.in_ok-push_pair.ensures) c.loop-entry.invariant

pub from_vec-requires : goal.from_vec-requires
from_vec-requires c =
    rw (made_all over_columns c.loop-entry.entries.items c.as_slice-entry-items.result.now c.loop-entry.entry-index refl c.loop-entry.invariant c.loop-entry-test.false, c.as_slice-entry-items.ensures.value)
    (over_sparse c.args.terms.now c.as_slice-entry-items.ensures.sparse)
