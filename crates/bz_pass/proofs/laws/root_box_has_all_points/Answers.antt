use Rattle.bz_pass.proofs.MasterIntegers.{lies_in_root}
use Rattle.bz_pass.proofs.laws.root_box_has_all_points.Goals as goal

pub returns : goal.returns
returns c = lies_in_root
