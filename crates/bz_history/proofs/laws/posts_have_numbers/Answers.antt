use Rattle.bz_history.proofs.CountSteps.{posts_have_numbers}
use Rattle.bz_history.proofs.laws.posts_have_numbers.Goals as goal

pub returns : goal.returns
returns c = posts_have_numbers
