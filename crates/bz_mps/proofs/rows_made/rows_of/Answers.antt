use Rattle.std.proofs.Common.{arith, ap, sym, subst, map, get_or, ◌∙◌, ◌≡◌, ◌<◌}
use Rattle.std.specs.Prelude.{length}
use Rattle.std.specs.List.{AllZip}
use Rattle.bz_lines.specs.FirstFault.{NoneFails}
use Rattle.bz_facts.specs.declared.RowType.TheVariants.{Free}
use Rattle.bz_mps.specs.FactModel.{IsRowOf, end_test_at_row}
use Rattle.bz_mps.proofs.RowLemmas.{all_rows, kind_read, next_skipped, row_added, row_passes, row_stops, unless_none, unless_some}
use Rattle.bz_mps.proofs.rows_made.rows_of.Goals as goal

pub loop-place-preserved-then-is_free : goal.loop-place-preserved-then-is_free
loop-place-preserved-then-is_free c =
    let inside : c.loop-place.place < length c.args.facts.now.row_types = subst (λ ks. c.loop-place.place < length ks) c.as_slice-kinds.ensures c.loop-place-test.true in
    let read = kind_read c.as_slice-kinds.result.now c.args.facts.now.row_types c.loop-place.place Free c.as_slice-kinds.ensures inside in
    let same = next_skipped c.args.facts.now.row_types c.loop-place.place (get_or c.as_slice-kinds.result.now c.loop-place.place Free) inside read (sym c.is_free.ensures ∙ c.if-is_free.true) in
    record {
      rows = subst (λ ns. AllZip (IsRowOf c.args.facts.now) ns c.loop-place.rows.items) (sym same) c.loop-place.invariant.rows;
      passed = subst (λ ns. NoneFails (map (end_test_at_row c.args.facts.now) ns)) (sym same) c.loop-place.invariant.passed;
    }

pub loop-place-preserved : goal.loop-place-preserved
loop-place-preserved c =
    let inside : c.loop-place.place < length c.args.facts.now.row_types = subst (λ ks. c.loop-place.place < length ks) c.as_slice-kinds.ensures c.loop-place-test.true in
    let read = kind_read c.as_slice-kinds.result.now c.args.facts.now.row_types c.loop-place.place Free c.as_slice-kinds.ensures inside in
    let free = sym c.is_free.ensures ∙ c.if-is_free.false in
    let here = unless_some _ (IsRowOf c.args.facts.now (c.loop-place.place, get_or c.as_slice-kinds.result.now c.loop-place.place Free)) c.in_ok-row.row c.in-Some.row c.in-Some.is c.in_ok-row.ensures in
    record {
      rows = row_added c.args.facts.now c.loop-place.place _ c.loop-place.rows.items c.push_item.new.items.items c.in-Some.row inside read free c.loop-place.invariant.rows here.1 c.in_ok-push_item.ensures;
      passed = row_passes c.args.facts.now c.loop-place.place _ inside read free c.loop-place.invariant.passed here.0;
    }

pub returns-in_default-clause-tests : goal.returns-in_default-clause-tests
returns-in_default-clause-tests c =
    let inside : c.loop-place.place < length c.args.facts.now.row_types = subst (λ ks. c.loop-place.place < length ks) c.as_slice-kinds.ensures c.loop-place-test.true in
    let read = kind_read c.as_slice-kinds.result.now c.args.facts.now.row_types c.loop-place.place Free c.as_slice-kinds.ensures inside in
    let free = sym c.is_free.ensures ∙ c.if-is_free.false in
    row_stops c.args.facts.now c.loop-place.place _ inside read free c.loop-place.invariant.passed
    (unless_none _ (IsRowOf c.args.facts.now (c.loop-place.place, get_or c.as_slice-kinds.result.now c.loop-place.place Free)) c.in_ok-row.row c.in_default.is c.in_ok-row.ensures)

pub returns-clause-rows : goal.returns-clause-rows
returns-clause-rows c =
    let e : length c.as_slice-kinds.result.now ≡ length c.args.facts.now.row_types = ap length c.as_slice-kinds.ensures in
    subst (λ ns. AllZip (IsRowOf c.args.facts.now) ns c.loop-place.rows.items) (all_rows c.args.facts.now.row_types c.loop-place.place (omega arith)) c.loop-place.invariant.rows

pub returns-clause-tests : goal.returns-clause-tests
returns-clause-tests c =
    let e : length c.as_slice-kinds.result.now ≡ length c.args.facts.now.row_types = ap length c.as_slice-kinds.ensures in
    subst (λ ns. NoneFails (map (end_test_at_row c.args.facts.now) ns)) (all_rows c.args.facts.now.row_types c.loop-place.place (omega arith)) c.loop-place.invariant.passed
