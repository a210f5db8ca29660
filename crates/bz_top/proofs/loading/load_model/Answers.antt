use Rattle.std.proofs.Common.{◌≡◌, List, None, ℕ, subst, sym}
use Rattle.bz_mps.specs.FactModel.{ModelOf, MpsFaultOf}
use Rattle.bz_top.specs.declared.status.File.TheVariants.{Model as ModelFile}
use Rattle.bz_top.specs.declared.status.Refusal.{Refusal}
use Rattle.bz_top.specs.Claims.{IsCause}
use Rattle.bz_top.specs.Loads.{IsEarly}
use Rattle.bz_top.proofs.Loads.{at_first, if_err_and, load_cause, model_early, model_reached, model_refused, modelled}
use Rattle.bz_top.proofs.loading.load_model.Goals as goal

pub returns-in_err-text-clause-cause : goal.returns-in_err-text-clause-cause
returns-in_err-text-clause-cause g c =
    if_err_and {E = Refusal} {P = λ r. r ≡ c.in_err-text.field-0.0} {Q = IsCause (g.D.Desk.told c.args.desk.now) c.args.job.now}
    c.from_residual.result c.from_residual.ensures.1
    (λ refusal same. subst (λ (r : Refusal). IsCause (g.D.Desk.told c.args.desk.now) c.args.job.now r) (sym same)
    (load_cause _ _ ModelFile _ (model_reached _ _) (c.in_err-text.ensures.answer _ (at_first _))))

pub returns-in_err-text-clause-early : goal.returns-in_err-text-clause-early
returns-in_err-text-clause-early g c =
    if_err_and {E = Refusal} {P = λ r. r ≡ c.in_err-text.field-0.0} {Q = IsEarly}
    c.from_residual.result c.from_residual.ensures.1
    (λ refusal same. subst IsEarly (sym same) (model_early None c.args.job.now _ (c.in_err-text.ensures.answer None tt)))

pub returns-in-Ok-clause-reads : goal.returns-in-Ok-clause-reads
returns-in-Ok-clause-reads g c =
    modelled _ _ _ _ (c.in_ok-text.ensures.answer _ (at_first _))
    (subst (λ (t : List ℕ). ModelOf t c.in-Ok.model) c.as_slice.ensures.value c.in-Ok.ensures.model)

pub returns-in-Err-Fault-clause-cause : goal.returns-in-Err-Fault-clause-cause
returns-in-Err-Fault-clause-cause g c =
    let is : MpsFaultOf c.as_slice.result.now c.in-Err-Fault.fault.line c.in-Err-Fault.fault.kind =
    rw c.in-Err-Fault.field-0-is at c.in-Err-Fault.ensures.fault in
    model_refused _ _ _ _ (c.in_ok-text.ensures.answer _ (at_first _))
    (subst (λ (t : List ℕ). MpsFaultOf t c.in-Err-Fault.fault.line c.in-Err-Fault.fault.kind) c.as_slice.ensures.value is)
