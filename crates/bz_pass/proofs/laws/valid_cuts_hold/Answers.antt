use Rattle.bz_pass.proofs.CutsHold.{valid_cut_holds}
use Rattle.bz_pass.proofs.laws.valid_cuts_hold.Goals as goal

pub returns : goal.returns
returns c = valid_cut_holds
