use Rattle.bz_history.proofs.RaySteps.{rays_are_true}
use Rattle.bz_history.proofs.laws.rays_are_true.Goals as goal

pub returns : goal.returns
returns c = rays_are_true
