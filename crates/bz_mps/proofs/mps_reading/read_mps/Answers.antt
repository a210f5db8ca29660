use Rattle.std.proofs.lemmas.Result.{IfOk-weaker}
use Rattle.bz_mps.proofs.ModelLemmas.{model-few_columns, model-few_rows, model-its_columns}
use Rattle.bz_mps.proofs.NameLaws.{model-names, model_read}
use Rattle.bz_mps.proofs.mps_reading.read_mps.Goals as goal

pub returns-clause-model : goal.returns-clause-model
returns-clause-model c = model_read c.args.text.now c.in_ok-facts.facts c.model_of.result c.in_ok-facts.ensures.facts c.model_of.ensures.model c.model_of.ensures.tests

pub returns-clause-terms : goal.returns-clause-terms
returns-clause-terms c =
    IfOk-weaker c.model_of.result _ _ (λ m h. model-its_columns c.in_ok-facts.facts m c.in_ok-facts.ensures.sound h) c.model_of.ensures.model

pub returns-clause-few_columns : goal.returns-clause-few_columns
returns-clause-few_columns c =
    IfOk-weaker c.model_of.result _ _ (λ m h. model-few_columns c.in_ok-facts.facts m c.in_ok-facts.ensures.sound h) c.model_of.ensures.model

pub returns-clause-few_rows : goal.returns-clause-few_rows
returns-clause-few_rows c =
    IfOk-weaker c.model_of.result _ _ (λ m h. model-few_rows c.in_ok-facts.facts m c.in_ok-facts.ensures.sound h) c.model_of.ensures.model

pub returns-clause-names : goal.returns-clause-names
returns-clause-names c =
    IfOk-weaker c.model_of.result _ _
    (λ m h. model-names c.args.text.now c.in_ok-facts.facts m c.in_ok-facts.ensures.facts c.in_ok-facts.ensures.sound.integers h) c.model_of.ensures.model
