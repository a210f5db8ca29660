use Rattle.bz_cut.proofs.CutTold.{cut_told}
use Rattle.bz_cut.proofs.laws.cut_tests_tell.Goals as goal

pub returns : goal.returns
returns c = cut_told
