use Rattle.bz_model.proofs.Joins.{columns_more}
use Rattle.bz_model.proofs.rows.push_columns.Goals as goal

pub loop-number-preserved : goal.loop-number-preserved
loop-number-preserved c = columns_more c.args.part.now c.args.columns.now c.loop-number.number c.index-columns-number.result c.loop-number-test.true c.index-columns-number.is c.loop-number.invariant c.in_ok-push_bounds.ensures
