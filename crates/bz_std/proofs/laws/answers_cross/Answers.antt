use Rattle.bz_std.proofs.Crossing.{least_crosses, rise_crosses, empty_crosses, ray_crosses}
use Rattle.bz_std.proofs.laws.answers_cross.Goals as goal

pub returns : goal.returns
returns c = record {
  least = λ q lp basis z y h posed. least_crosses q lp h posed basis z y;
  rise = λ q lp basis z y h posed. rise_crosses q lp h posed basis z y;
  empty = λ q lp basis y h posed. empty_crosses q lp h posed basis y;
  ray = λ q lp basis column z d h posed. ray_crosses q lp h posed basis column z d;
}
