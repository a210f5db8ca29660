use Rattle.bz_pass.proofs.Rays.{ray_point_feasible}
use Rattle.bz_pass.proofs.laws.points_of_rays_are_feasible.Goals as goal

pub returns : goal.returns
returns c = ray_point_feasible
