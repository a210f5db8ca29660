use Rattle.std.proofs.Common.{◌≡◌, List, ℕ, None, subst, sym}
use Rattle.bz_part.specs.Partition.{PartFault}
use Rattle.bz_top.specs.declared.status.File.TheVariants.{Part as PartFile}
use Rattle.bz_top.specs.declared.status.Refusal.{Refusal}
use Rattle.bz_top.specs.Claims.{IsCause}
use Rattle.bz_top.specs.Loads.{IsEarly}
use Rattle.bz_top.proofs.Loads.{if_err_and, load_cause, part_early, part_reached, part_refused}
use Rattle.bz_top.proofs.loading.load_part.Goals as goal

pub returns-in_err-text-clause-cause : goal.returns-in_err-text-clause-cause
returns-in_err-text-clause-cause g c = λ told first model.
    if_err_and {E = Refusal} {P = λ r. r ≡ c.in_err-text.field-0.0} {Q = IsCause told c.args.job.now}
    c.from_residual.result c.from_residual.ensures.1
    (λ refusal same. subst (λ (r : Refusal). IsCause told c.args.job.now r) (sym same)
    (load_cause _ _ PartFile _ (part_reached _ _ _ model) (c.in_err-text.ensures.answer told first)))

pub returns-in-Err-Fault-clause-cause : goal.returns-in-Err-Fault-clause-cause
returns-in-Err-Fault-clause-cause g c = λ told first model.
    let is : PartFault c.as_slice.result.now c.args.model.now c.in-Err-Fault.fault.line c.in-Err-Fault.fault.kind =
    rw c.in-Err-Fault.field-0-is at c.in-Err-Fault.ensures.reads in
    part_refused _ _ _ _ _ model (c.in_ok-text.ensures.answer told first)
    (subst (λ (t : List ℕ). PartFault t c.args.model.now c.in-Err-Fault.fault.line c.in-Err-Fault.fault.kind) c.as_slice.ensures.value is)

pub returns-in_err-text-clause-early : goal.returns-in_err-text-clause-early
returns-in_err-text-clause-early g c =
    if_err_and {E = Refusal} {P = λ r. r ≡ c.in_err-text.field-0.0} {Q = IsEarly}
    c.from_residual.result c.from_residual.ensures.1
    (λ refusal same. subst IsEarly (sym same) (part_early None c.args.job.now _ (c.in_err-text.ensures.answer None tt)))
