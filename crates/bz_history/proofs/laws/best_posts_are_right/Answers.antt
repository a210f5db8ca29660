use Rattle.bz_history.proofs.BestValues.{best_posts_are_right}
use Rattle.bz_history.proofs.laws.best_posts_are_right.Goals as goal

pub returns : goal.returns
returns c = best_posts_are_right
