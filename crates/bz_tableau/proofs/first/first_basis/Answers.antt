use Rattle.bz_tableau.proofs.FirstRows.{range-more}
use Rattle.bz_tableau.proofs.first.first_basis.Goals as goal

pub loop-i-preserved : goal.loop-i-preserved
loop-i-preserved c = rw (c.in_ok-push.ensures.items, c.loop-i.invariant) (range-more c.first_slack-slack.result c.loop-i.i)
