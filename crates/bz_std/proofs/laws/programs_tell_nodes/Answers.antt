use Rattle.bz_std.proofs.NodesTold.{leaf_fits_told, leaf_holds_told, met_told, mode_told, posed_told}
use Rattle.bz_std.proofs.laws.programs_tell_nodes.Goals as goal

pub returns : goal.returns
returns c = record {
  posed = posed_told;
  holds = leaf_holds_told;
  fits = leaf_fits_told;
  meets = met_told;
  mode = mode_told;
}
