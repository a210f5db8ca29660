use Rattle.bz_history.proofs.PostSteps.{posts_are_right}
use Rattle.bz_history.proofs.laws.posts_are_right.Goals as goal

pub returns : goal.returns
returns c = posts_are_right
