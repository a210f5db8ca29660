use Rattle.std.proofs.Common.{refl, inl}
use Rattle.bz_num.proofs.NarrowSums.{narrow_where_ok, wide_where_err}
use Rattle.bz_cut.proofs.judging.judge_fold.Goals as goal

pub returns-in-Ok-clause-judges : goal.returns-in-Ok-clause-judges
returns-in-Ok-clause-judges g c = λ ps same. (narrow_where_ok ps c.args.sum _ same c.in-Ok.is, tt)

pub returns-in-Err-clause-judges : goal.returns-in-Err-clause-judges
returns-in-Err-clause-judges g c = λ ps same. inl (wide_where_err ps c.args.sum _ same c.in-Err.is, refl)
