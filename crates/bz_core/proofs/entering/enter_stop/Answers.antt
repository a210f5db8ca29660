use Rattle.bz_core.proofs.entering.enter_stop.Goals as goal

pub returns-then-spent : goal.returns-then-spent
returns-then-spent c = λ d. rw c.if-spent.true (c.stop.ensures d)
