use Rattle.bz_pass.proofs.Rays.{ray_unbounded}
use Rattle.bz_pass.proofs.laws.passing_is_unbounded.Goals as goal

pub returns : goal.returns
returns c = ray_unbounded
