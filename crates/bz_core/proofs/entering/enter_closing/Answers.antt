use Rattle.bz_core.proofs.entering.enter_closing.Goals as goal

pub returns-in-Some : goal.returns-in-Some
returns-in-Some c = λ d. rw c.in-Some.is (c.close.ensures d)
