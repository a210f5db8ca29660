use Rattle.bz_mps.proofs.ModelsMade.{text-model_or_fault}
use Rattle.bz_mps.proofs.model_laws.mps_text_has_model_or_fault.Goals as goal

pub returns : goal.returns
returns c = text-model_or_fault
