use Rattle.bz_mps.proofs.ScaleLaws.{least_scale}
use Rattle.bz_mps.proofs.model_laws.scale_is_least.Goals as goal

pub returns : goal.returns
returns c = least_scale
