use Rattle.std.proofs.Common.{◌≡◌}
use Rattle.std.specs.Result.{IsErrAnd, IfErr}
use Rattle.bz_num.specs.Fold.{IsNarrowSum}
use Rattle.bz_std.specs.Tasks.{own_line, right_pairs}
use Rattle.bz_std.proofs.Building.{narrow_next, rows_next, stop_passed, stops_here, wide_next}
use Rattle.bz_std.proofs.separation.own_rows.Goals as goal

pub returns-in_err-row-clause-stop : goal.returns-in_err-row-clause-stop
returns-in_err-row-clause-stop c = stop_passed c.args.point.now c.args.ineqs.now c.in_err-row.field-0.0 c.from_residual.result c.from_residual.ensures.1 (stops_here c.args.point.now c.args.ineqs.now c.loop-number.number c.index-ineqs-number.result c.in_err-row.field-0.0 c.loop-number-test.true c.index-ineqs-number.is c.loop-number.invariant.wide c.in_err-row.ensures.stop)

pub loop-number-preserved : goal.loop-number-preserved
loop-number-preserved c = record {
  rows = rows_next (own_line c.args.point.now) c.args.ineqs.now c.loop-number.number c.index-ineqs-number.result c.loop-number.rows.items c.push_row.new.rows.items c.in_ok-row.row c.loop-number-test.true c.index-ineqs-number.is c.in_ok-push_row.ensures c.in_ok-row.ensures.row c.loop-number.invariant.rows;
  narrow = narrow_next (λ i. IsNarrowSum (right_pairs c.args.point.now i)) c.args.ineqs.now c.loop-number.number c.index-ineqs-number.result c.loop-number-test.true c.index-ineqs-number.is c.in_ok-row.ensures.narrow c.loop-number.invariant.narrow;
  wide = wide_next c.args.point.now c.args.ineqs.now c.loop-number.number c.index-ineqs-number.result c.loop-number-test.true c.index-ineqs-number.is c.in_ok-row.ensures.narrow c.loop-number.invariant.wide;
}
