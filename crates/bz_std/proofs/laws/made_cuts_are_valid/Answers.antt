use Rattle.bz_std.proofs.CutsMade.{valid_cut, valid_of_separation, valid_of_floor, floor_has_eta}
use Rattle.bz_std.proofs.laws.made_cuts_are_valid.Goals as goal

pub returns : goal.returns
returns c = record {
  balanced = valid_cut;
  of_separation = valid_of_separation;
  of_floor = valid_of_floor;
  has_eta = floor_has_eta;
}
