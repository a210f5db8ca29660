use Rattle.std.proofs.Common.{◌≡◌, ◌∙◌, subst, sym}
use Rattle.bz_cert.specs.Fits.{Fits}
use Rattle.bz_cert.specs.Passing.{Passes}
use Rattle.bz_model.specs.Splits.{IsSplit}
use Rattle.bz_top.specs.declared.said.Holding.{Holding}
use Rattle.bz_top.specs.declared.status.Refusal.{Refusal}
use Rattle.bz_top.specs.Claims.{IsCause}
use Rattle.bz_top.specs.Loads.{RefusesCheck, Says, ShownHolding}
use Rattle.bz_top.proofs.JudgeCounts.{judge_counts}
use Rattle.bz_top.proofs.Loads.{cert_reached, check_refused, if_err_and, if_err_then, if_ok_then, same_after, same_then, where_told}
use Rattle.bz_top.proofs.Showing.{shows}
use Rattle.bz_top.proofs.Laws.{decomposes, ends_decomposed, verdicts_are_true}
use Rattle.bz_top.proofs.check.check_files.Goals as goal

pub returns-in_err-certificate-clause-cause : goal.returns-in_err-certificate-clause-cause
returns-in_err-certificate-clause-cause g c =
    if_err_and {T = Holding} {E = Refusal} {P = λ r. r ≡ c.in_err-certificate.field-0.0} {Q = IsCause (g.D.Desk.told c.args.desk.now) c.args.job.now}
    c.from_residual-in_err-certificate.result c.from_residual-in_err-certificate.ensures.1
    (λ refusal same. subst (λ (r : Refusal). IsCause (g.D.Desk.told c.args.desk.now) c.args.job.now r) (sym same)
    (c.in_err-certificate.ensures.cause _ (where_told 2 _ _ c.in_ok-split.ensures.loads) (cert_reached _ _ _ c.requires c.in_ok-split.ensures.accepted)))

pub returns-clause-shown : goal.returns-clause-shown
returns-clause-shown g c =
    let read = c.in_ok-certificate.ensures.reads _ (where_told 2 _ _ c.in_ok-split.ensures.loads) in
    if_ok_then {T = Holding} {E = Refusal}
    {P1 = λ _. Passes c.in_ok-split.split.model c.in_ok-split.split.part c.in_ok-certificate.certificate}
    {P2 = λ _. Fits c.in_ok-split.split.model c.in_ok-split.split.part c.in_ok-certificate.certificate}
    {P3 = Says c.in_ok-split.split c.in_ok-certificate.certificate}
    {P4 = λ _. IsSplit c.in_ok-split.split}
    {Q = ShownHolding (g.D.Desk.told c.args.desk.now) c.args.job.now}
    c.judge.result
    (λ holding passes fits says split. shows verdicts_are_true _ _ _ _ _ split c.in_ok-split.ensures.accepted read passes fits says)
    c.judge.ensures.passes c.judge.ensures.fits c.judge.ensures.says c.judge.ensures.split

pub returns-clause-cause : goal.returns-clause-cause
returns-clause-cause g c =
    let read = c.in_ok-certificate.ensures.reads _ (where_told 2 _ _ c.in_ok-split.ensures.loads) in
    if_err_then {T = Holding} {E = Refusal} {P = RefusesCheck c.in_ok-split.split c.in_ok-certificate.certificate} {Q = IsCause (g.D.Desk.told c.args.desk.now) c.args.job.now} c.judge.result
    (λ r refuses. check_refused _ _ _ _ r c.in_ok-split.ensures.accepted read refuses)
    c.judge.ensures.refused

pub returns-in_err-certificate-clause-decomposed : goal.returns-in_err-certificate-clause-decomposed
returns-in_err-certificate-clause-decomposed g c = ends_decomposed _ _ _ (decomposes _ _ _ c.in_ok-split.ensures.accepted c.in_ok-split.ensures.split)

pub returns-clause-decomposed : goal.returns-clause-decomposed
returns-clause-decomposed g c = ends_decomposed _ _ _ (decomposes _ _ _ c.in_ok-split.ensures.accepted c.in_ok-split.ensures.split)

pub returns-in_err-certificate-clause-kept : goal.returns-in_err-certificate-clause-kept
returns-in_err-certificate-clause-kept g c = same_then _ _ _ c.in_ok-split.ensures.kept (same_after 1 _ _ c.in_err-certificate.ensures.kept)

pub returns-clause-kept : goal.returns-clause-kept
returns-clause-kept g c = same_then _ _ _ c.in_ok-split.ensures.kept (same_after 1 _ _ c.in_ok-certificate.ensures.kept)

pub returns-clause-count : goal.returns-clause-count
returns-clause-count g c =
    judge_counts c.in_ok-split.split c.in_ok-certificate.certificate c.judge.result (g.D.Desk.faults c.args.desk.now) (g.D.Desk.faults c.load_cert.new.desk)
    c.judge.ensures.refused (c.in_ok-certificate.ensures.count ∙ c.in_ok-split.ensures.count)
