use Rattle.std.proofs.Common.{List, ℕ, [], ◌∷◌, ap}
use Rattle.bz_top.specs.declared.job.Job.TheVariants.{Split}
use Rattle.bz_top.proofs.words.of_three.Goals as goal

pub returns-in-Err : goal.returns-in-Err
returns-in-Err c = record {
  job = Split c.args.model.now c.args.part.now;
  asked = record {
    words_are = ap (λ (w : List ℕ). w ∷ c.args.model.now ∷ c.args.part.now ∷ []) (c.is_split.ensures.0 c.if-not-is_split.false);
    model_name = c.is_file_name.ensures.0 c.if-not-is_file_name.false;
    part_name = c.is_file_name-else-not-is_file_name.ensures.0 c.if-not-is_file_name-2.false;
  };
}
