use Rattle.bz_mps.proofs.TextLaws.{model-no_fault, same_mps_fault}
use Rattle.bz_mps.proofs.model_laws.mps_text_has_one_fault.Goals as goal

pub returns-clause-apart : goal.returns-clause-apart
returns-clause-apart c = model-no_fault

pub returns-clause-one : goal.returns-clause-one
returns-clause-one c = same_mps_fault
