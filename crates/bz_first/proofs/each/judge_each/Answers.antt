use Rattle.std.proofs.Common.{◌+◌, refl}
use Rattle.bz_first.proofs.Facts.{numbered_all}
use Rattle.bz_first.proofs.Numbered.{numbered_next, numbered_stop, numbered_end}
use Rattle.bz_first.proofs.each.judge_each.Goals as goal

pub judge-requires : goal.judge-requires
judge-requires g c = numbered_all (g.T.ItemTests.takes c.args.tests.now) c.args.from c.args.items.now c.loop-place.place (c.args.from + c.loop-place.place) c.index-items-place.result c.loop-place-test.true refl c.index-items-place.is c.requires.takes

pub returns-in_err-judge : goal.returns-in_err-judge
returns-in_err-judge g c = numbered_stop (g.T.ItemTests.tests c.args.tests.now) c.args.from c.args.items.now c.loop-place.place (c.args.from + c.loop-place.place) c.index-items-place.result _ c.in_err-judge.field-0.0 c.from_residual.result c.from_residual.ensures.1 c.loop-place-test.true refl c.index-items-place.is c.in_err-judge.ensures c.loop-place.invariant

pub loop-place-preserved : goal.loop-place-preserved
loop-place-preserved g c = numbered_next (g.T.ItemTests.tests c.args.tests.now) c.args.from c.args.items.now c.loop-place.place (c.args.from + c.loop-place.place) c.index-items-place.result _ c.loop-place-test.true refl c.index-items-place.is c.in_ok-judge.ensures c.loop-place.invariant

pub returns : goal.returns
returns g c = numbered_end (g.T.ItemTests.tests c.args.tests.now) c.args.from c.args.items.now c.loop-place.place _ c.loop-place-test.false c.loop-place.invariant
