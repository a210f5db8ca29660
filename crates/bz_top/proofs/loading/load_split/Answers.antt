use Rattle.std.proofs.Common.{◌≡◌, subst, sym}
use Rattle.bz_top.specs.declared.status.Refusal.{Refusal}
use Rattle.bz_top.specs.Claims.{IsCause}
use Rattle.bz_top.proofs.Loads.{after_both, if_err_and, if_ok_too, where_told}
use Rattle.bz_top.proofs.loading.load_split.Goals as goal

pub returns-in_err-part-clause-cause : goal.returns-in_err-part-clause-cause
returns-in_err-part-clause-cause g c =
    if_err_and {E = Refusal} {P = λ r. r ≡ c.in_err-part.field-0.0} {Q = IsCause (g.D.Desk.told c.args.desk.now) c.args.job.now}
    c.from_residual-in_err-part.result c.from_residual-in_err-part.ensures.1
    (λ refusal same. subst (λ (r : Refusal). IsCause (g.D.Desk.told c.args.desk.now) c.args.job.now r) (sym same)
    (c.in_err-part.ensures.cause _ (where_told 1 _ _ c.in_ok-model.ensures.kept) c.in_ok-model.ensures.reads))

pub returns-clause-loads : goal.returns-clause-loads
returns-clause-loads g c = if_ok_too c.split_of.result (after_both 1 1 _ _ _ c.in_ok-model.ensures.kept c.in_ok-part.ensures.kept)
