use Rattle.std.proofs.Common.{arith, sym, ◌∙◌, ◌≡◌, ap}
use Rattle.std.specs.Prelude.{length}
use Rattle.bz_mps.specs.ColumnEnds.{lines_at}
use Rattle.bz_mps.proofs.PlacedItems.{items_there}
use Rattle.bz_mps.proofs.TestLists.{stops_on}
use Rattle.bz_mps.proofs.ColumnSteps.{column_added, column_passes, column_stops, columns_whole, lines_finite, tests_whole}
use Rattle.bz_mps.proofs.columns_made.columns_of.Goals as goal

pub column_of-requires : goal.column_of-requires
column_of-requires c =
    let lines : c.as_slice-in-loop-place.result.now ≡ lines_at c.loop-place.place c.args.facts.now.bounds =
    c.as_slice-in-loop-place.ensures.value ∙ items_there (λ b. b.column) (λ v. v.items) (length c.as_slice-marks.result.now) c.as_slice.result.now c.in_ok-lines.lines.items c.loop-place.place c.index.result.now c.in_ok-lines.ensures c.loop-place-test.true c.index.ensures
    ∙ ap (lines_at c.loop-place.place) c.as_slice.ensures in
    lines_finite (length c.args.facts.now.columns) c.loop-place.place c.args.facts.now.bounds _ lines c.requires.bounds

pub returns-in_err-column-clause-tests : goal.returns-in_err-column-clause-tests
returns-in_err-column-clause-tests c =
    let lines : c.as_slice-in-loop-place.result.now ≡ lines_at c.loop-place.place c.args.facts.now.bounds =
    c.as_slice-in-loop-place.ensures.value ∙ items_there (λ b. b.column) (λ v. v.items) (length c.as_slice-marks.result.now) c.as_slice.result.now c.in_ok-lines.lines.items c.loop-place.place c.index.result.now c.in_ok-lines.ensures c.loop-place-test.true c.index.ensures
    ∙ ap (lines_at c.loop-place.place) c.as_slice.ensures in
    stops_on _ c.from_residual-in_err-column.result c.in_err-column.field-0.0 c.from_residual-in_err-column.ensures.1
    (column_stops c.args.facts.now.bounds c.as_slice-marks.result.now c.args.facts.now.integers c.as_slice-in-loop-place.result.now c.loop-place.place c.in_err-column.field-0.0 c.as_slice-marks.ensures c.loop-place-test.true lines c.loop-place.invariant.passed c.in_err-column.ensures.tests)

pub loop-place-preserved : goal.loop-place-preserved
loop-place-preserved c =
    let lines : c.as_slice-in-loop-place.result.now ≡ lines_at c.loop-place.place c.args.facts.now.bounds =
    c.as_slice-in-loop-place.ensures.value ∙ items_there (λ b. b.column) (λ v. v.items) (length c.as_slice-marks.result.now) c.as_slice.result.now c.in_ok-lines.lines.items c.loop-place.place c.index.result.now c.in_ok-lines.ensures c.loop-place-test.true c.index.ensures
    ∙ ap (lines_at c.loop-place.place) c.as_slice.ensures in
    record {
      columns = column_added c.args.facts.now.bounds c.args.facts.now.columns c.as_slice-marks.result.now c.args.facts.now.integers c.as_slice-in-loop-place.result.now c.at-name.result.now c.loop-place.place
          c.loop-place.columns.items c.push_item.new.items.items c.in_ok-column.column (sym c.requires.integers) c.as_slice-marks.ensures c.loop-place-test.true lines c.at-name.ensures c.loop-place.invariant.columns c.in_ok-column.ensures.column c.in_ok-push_item.ensures;
      passed = column_passes c.args.facts.now.bounds c.as_slice-marks.result.now c.args.facts.now.integers c.as_slice-in-loop-place.result.now c.loop-place.place c.as_slice-marks.ensures c.loop-place-test.true lines c.loop-place.invariant.passed c.in_ok-column.ensures.tests;
    }

pub returns-clause-columns : goal.returns-clause-columns
returns-clause-columns c =
    columns_whole c.args.facts.now.bounds c.args.facts.now.columns c.as_slice-marks.result.now c.args.facts.now.integers c.loop-place.place c.loop-place.columns.items (sym c.requires.integers) c.as_slice-marks.ensures (omega arith) c.loop-place.invariant.columns

pub returns-clause-tests : goal.returns-clause-tests
returns-clause-tests c =
    tests_whole c.args.facts.now.bounds c.as_slice-marks.result.now c.args.facts.now.integers c.loop-place.place c.as_slice-marks.ensures (omega arith) c.loop-place.invariant.passed
