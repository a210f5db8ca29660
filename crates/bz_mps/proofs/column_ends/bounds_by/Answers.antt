use Rattle.std.proofs.Common.{refl}
use Rattle.bz_mps.proofs.EndLemmas.{bounded_step, bounds_step, starting_finite}
use Rattle.bz_mps.proofs.column_ends.bounds_by.Goals as goal

pub loop-line-init : goal.loop-line-init
loop-line-init c = record { ends = refl; finite = starting_finite }

pub loop-line-preserved : goal.loop-line-preserved
loop-line-preserved c = record {
  ends = bounds_step c.args.lines.now c.loop-line.line-index _ c.loop-line.ends c.bound_by-ends.result c.loop-line-test.true c.loop-line.invariant.ends c.bound_by-ends.ensures;
  finite = bounded_step c.args.lines.now c.loop-line.line-index _ c.loop-line.ends c.bound_by-ends.result c.loop-line-test.true c.requires c.bound_by-ends.ensures c.loop-line.invariant.finite;
}
