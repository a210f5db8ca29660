use Rattle.std.proofs.Common.{List, ℕ, [], ◌∷◌, ap}
use Rattle.bz_top.specs.declared.job.Job.TheVariants.{Check}
use Rattle.bz_top.proofs.words.of_four.Goals as goal

pub returns-in-Err : goal.returns-in-Err
returns-in-Err c = record {
  job = Check c.args.model.now c.args.part.now c.args.cert.now;
  asked = record {
    words_are = ap (λ (w : List ℕ). w ∷ c.args.model.now ∷ c.args.part.now ∷ c.args.cert.now ∷ []) (c.is_check.ensures.0 c.if-not-is_check.false);
    model_name = c.is_file_name.ensures.0 c.if-not-is_file_name.false;
    part_name = c.is_file_name-else-not-is_file_name.ensures.0 c.if-not-is_file_name-2.false;
    cert_name = c.is_file_name-else-not-is_file_name-2.ensures.0 c.if-not-is_file_name-3.false;
  };
}
