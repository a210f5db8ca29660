use Rattle.bz_history.proofs.LiveSteps.{lives_are_right}
use Rattle.bz_history.proofs.laws.lives_are_right.Goals as goal

pub returns : goal.returns
returns c = lives_are_right
