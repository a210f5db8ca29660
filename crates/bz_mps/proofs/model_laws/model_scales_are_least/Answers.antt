use Rattle.bz_mps.proofs.LeastModels.{model-least_objective, model-least_rows}
use Rattle.bz_mps.proofs.model_laws.model_scales_are_least.Goals as goal

pub returns-clause-rows : goal.returns-clause-rows
returns-clause-rows c = model-least_rows

pub returns-clause-objective : goal.returns-clause-objective
returns-clause-objective c = model-least_objective
