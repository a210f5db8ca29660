use Rattle.bz_core.proofs.entering.enter_best.Goals as goal

pub returns-then-better : goal.returns-then-better
returns-then-better c = λ d. rw c.if-better.true (c.set_best.ensures d)
