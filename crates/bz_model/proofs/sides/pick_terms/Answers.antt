use Rattle.std.proofs.Common.{rules, ◌<◌, length, pos, arith, get_or, FitsSigned, to_z-of_z}
use Rattle.std.specs.Int.{w128}
use Rattle.std.proofs.lemmas.Int.{fits_signed_from_abs}
use Rattle.bz_algebra.specs.Numbers.{IsNarrow}
use Rattle.bz_num.specs.Row.{IsSparse}
use Rattle.bz_num.proofs.Reduces.{narrow-at}
use Rattle.bz_model.proofs.Sparse.{below_at, made_all, made_more, pick_here, pick_there, picked, picked_none, sparse_picked}
use Rattle.bz_model.proofs.sides.pick_terms.Goals as goal
use Rattle.bz_model.proofs.sides.pick_terms.Goals.{then-part-column+in_ok-push, else-part-column}

pub bounds-part-column : goal.bounds-part-column
bounds-part-column c = below_at _ c.as_slice-entry-items.result.now c.loop-entry.entry-index (0, pos 0) (rw c.as_slice-entry-items.ensures.value c.requires.columns) c.loop-entry-test.true

pub bounds-positions-column : goal.bounds-positions-column
bounds-positions-column c = let l : (get_or c.as_slice-entry-items.result.now c.loop-entry.entry-index (0, pos 0)).0 < length c.args.part.now = below_at _ c.as_slice-entry-items.result.now c.loop-entry.entry-index (0, pos 0) (rw c.as_slice-entry-items.ensures.value c.requires.columns) c.loop-entry-test.true in omega arith

pub signed-requires : goal.signed-requires
signed-requires c =
    let es = c.as_slice-entry-items.result.now in
    let number = (get_or es c.loop-entry.entry-index (0, pos 0)).1 in
    let sparse : IsSparse es = rw c.as_slice-entry-items.ensures.value c.as_slice-entry-items.ensures.sparse in
    let narrow : IsNarrow number = narrow-at 0 es c.loop-entry.entry-index (0, pos 0) sparse c.loop-entry-test.true in
    rw (to_z-of_z (fits_signed_from_abs w128 number narrow)) narrow

pub loop-entry-preserved : goal.loop-entry-preserved
loop-entry-preserved c =
    let es = c.as_slice-entry-items.result.now in
    let i = c.loop-entry.entry-index in
    let entry = get_or es i (0, pos 0) in
    let within : entry.0 < length c.args.part.now = below_at _ es i (0, pos 0) (rw c.as_slice-entry-items.ensures.value c.requires.columns) c.loop-entry-test.true in
    let sparse : IsSparse es = rw c.as_slice-entry-items.ensures.value c.as_slice-entry-items.ensures.sparse in
    let fits : FitsSigned w128 entry.1 = fits_signed_from_abs w128 entry.1 (narrow-at 0 es i (0, pos 0) sparse c.loop-entry-test.true) in
    elim c.if-part-column.branch [
      | then-part-column+in_ok-push w ↦
          let fits_number : FitsSigned w128 w.signed.result = search rules in
          rw (w.entries-is, w.in_ok-push.ensures.items, to_z-of_z fits_number, w.signed.ensures.value, to_z-of_z fits, c.requires.places.each entry.0 within)
          (made_more c.loop-entry.entries.items _ _ _ _ (pick_here c.args.part.now c.args.b c.args.negate es i (0, pos 0) c.loop-entry-test.true w.if-part-column.true) c.loop-entry.invariant)
      | else-part-column w ↦
          rw (w.entries-is, ← pick_there c.args.part.now c.args.b c.args.negate es i (0, pos 0) c.loop-entry-test.true w.if-part-column.false) c.loop-entry.invariant
    ]

pub from_vec-requires : goal.from_vec-requires
from_vec-requires c =
    rw (made_all (picked c.args.part.now c.args.b c.args.negate) c.loop-entry.entries.items c.as_slice-entry-items.result.now c.loop-entry.entry-index (picked_none c.args.part.now c.args.b c.args.negate) c.loop-entry.invariant c.loop-entry-test.false, c.as_slice-entry-items.ensures.value)
    (sparse_picked c.args.part.now c.args.b c.args.negate c.args.terms.now c.requires.columns c.as_slice-entry-items.ensures.sparse)
