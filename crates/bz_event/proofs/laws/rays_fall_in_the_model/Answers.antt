use Rattle.bz_event.proofs.PlacedRays.{floor_ray_falls}
use Rattle.bz_event.proofs.laws.rays_fall_in_the_model.Goals as goal

pub returns : goal.returns
returns c = floor_ray_falls
