use Rattle.bz_pass.proofs.Judging.{some_point}
use Rattle.bz_pass.proofs.laws.parts_have_a_point.Goals as goal

pub returns : goal.returns
returns c = some_point
