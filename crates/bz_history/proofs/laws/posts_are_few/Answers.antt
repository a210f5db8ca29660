use Rattle.bz_history.proofs.CountSteps.{posts_are_few}
use Rattle.bz_history.proofs.laws.posts_are_few.Goals as goal

pub returns : goal.returns
returns c = posts_are_few
