use Rattle.bz_check.proofs.Told.{fault_told, first_due, fits_told, holds_due, passes_told, split_told}
use Rattle.bz_check.proofs.whole.check.Goals as goal

pub returns : goal.returns
returns c = record {
  passes = passes_told c.args.split.now c.args.c.now c.judge_certificate.result c.judge_certificate.ensures;
  fits = fits_told c.args.split.now c.args.c.now c.judge_certificate.result c.judge_certificate.ensures;
  split = split_told c.args.split.now c.args.c.now c.judge_certificate.result c.judge_certificate.ensures;
  fault = fault_told c.args.split.now c.args.c.now c.judge_certificate.result c.judge_certificate.ensures;
  holds = holds_due c.args.split.now c.args.c.now c.judge_certificate.result c.judge_certificate.ensures;
  first = first_due c.args.split.now c.args.c.now c.judge_certificate.result c.judge_certificate.ensures;
}
