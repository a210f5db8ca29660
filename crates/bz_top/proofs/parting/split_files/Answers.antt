use Rattle.std.proofs.Common.{◌≡◌, subst, sym}
use Rattle.bz_top.specs.declared.status.Refusal.{Refusal}
use Rattle.bz_top.specs.Claims.{IsCause}
use Rattle.bz_top.proofs.Laws.{decomposes}
use Rattle.bz_top.proofs.Loads.{after_both, if_err_and, parts_shown, same_after, split_accepted, split_refused, where_told}
use Rattle.bz_top.proofs.parting.split_files.Goals as goal

pub returns-in_err-part-clause-cause : goal.returns-in_err-part-clause-cause
returns-in_err-part-clause-cause g c =
    if_err_and {E = Refusal} {P = λ r. r ≡ c.in_err-part.field-0.0} {Q = IsCause (g.D.Desk.told c.args.desk.now) c.args.job.now}
    c.from_residual-in_err-part.result c.from_residual-in_err-part.ensures.1
    (λ refusal same. subst (λ (r : Refusal). IsCause (g.D.Desk.told c.args.desk.now) c.args.job.now r) (sym same)
    (c.in_err-part.ensures.cause _ (where_told 1 _ _ c.in_ok-model.ensures.kept) c.in_ok-model.ensures.reads))

pub returns-in_err-split-clause-cause : goal.returns-in_err-split-clause-cause
returns-in_err-split-clause-cause g c =
    let parted = c.in_ok-part.ensures.reads _ (where_told 1 _ _ c.in_ok-model.ensures.kept) c.in_ok-model.ensures.reads in
    if_err_and {E = Refusal} {P = λ r. r ≡ c.in_err-split.field-0.0} {Q = IsCause (g.D.Desk.told c.args.desk.now) c.args.job.now}
    c.from_residual-in_err-split.result c.from_residual-in_err-split.ensures.1
    (λ refusal same. subst (λ (r : Refusal). IsCause (g.D.Desk.told c.args.desk.now) c.args.job.now r) (sym same)
    (split_refused _ _ _ _ parted c.in_err-split.ensures))

pub returns-clause-shown : goal.returns-clause-shown
returns-clause-shown g c =
    let parted = c.in_ok-part.ensures.reads _ (where_told 1 _ _ c.in_ok-model.ensures.kept) c.in_ok-model.ensures.reads in
    parts_shown _ _ _ c.requires (split_accepted _ _ _ _ parted c.in_ok-split.ensures.0 c.in_ok-split.ensures.1)

pub returns-clause-decomposed : goal.returns-clause-decomposed
returns-clause-decomposed g c =
    let parted = c.in_ok-part.ensures.reads _ (where_told 1 _ _ c.in_ok-model.ensures.kept) c.in_ok-model.ensures.reads in
    decomposes _ _ _ (split_accepted _ _ _ _ parted c.in_ok-split.ensures.0 c.in_ok-split.ensures.1) c.in_ok-split.ensures.1

pub returns-clause-kept : goal.returns-clause-kept
returns-clause-kept g c = same_after 2 _ _ (after_both 1 1 _ _ _ c.in_ok-model.ensures.kept c.in_ok-part.ensures.kept)
