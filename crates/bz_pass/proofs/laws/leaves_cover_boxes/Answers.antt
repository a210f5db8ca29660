use Rattle.bz_pass.proofs.Covering.{leaf_of_point}
use Rattle.bz_pass.proofs.laws.leaves_cover_boxes.Goals as goal

pub returns : goal.returns
returns c = leaf_of_point
