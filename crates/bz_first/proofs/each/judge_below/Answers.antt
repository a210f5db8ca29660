use Rattle.std.proofs.Common.{◌≡◌, rules, Err}
use Rattle.bz_first.proofs.TestLemmas.{below_next, fault_at, judges_handed}
use Rattle.bz_first.proofs.each.judge_below.Goals as goal

pub returns-in_err-judge_at : goal.returns-in_err-judge_at
returns-in_err-judge_at g c =
    let e : c.from_residual.result ≡ Err c.in_err-judge_at.field-0.0 = search rules in
    judges_handed _ c.from_residual.result c.in_err-judge_at.field-0.0 e
    (fault_at c.loop-n.n c.args.count (g.T.PlaceTests.tests c.args.tests.now) c.in_err-judge_at.field-0.0 c.loop-n-test.true c.loop-n.invariant c.in_err-judge_at.ensures)

pub loop-n-preserved : goal.loop-n-preserved
loop-n-preserved g c = below_next c.loop-n.n (g.T.PlaceTests.tests c.args.tests.now) c.loop-n.invariant c.in_ok-judge_at.ensures
