use Rattle.bz_mps.proofs.ModelLemmas.{model-columns, model-few_columns, model-few_rows, model-its_columns}
use Rattle.bz_mps.proofs.model_laws.models_fit.Goals as goal

pub returns-clause-many : goal.returns-clause-many
returns-clause-many c = model-columns

pub returns-clause-few_columns : goal.returns-clause-few_columns
returns-clause-few_columns c = model-few_columns

pub returns-clause-few_rows : goal.returns-clause-few_rows
returns-clause-few_rows c = model-few_rows

pub returns-clause-terms : goal.returns-clause-terms
returns-clause-terms c = model-its_columns
