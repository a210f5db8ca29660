use Rattle.bz_mps.proofs.ModelLaws.{text-one_model}
use Rattle.bz_mps.proofs.model_laws.mps_text_has_one_model.Goals as goal

pub returns : goal.returns
returns c = text-one_model
