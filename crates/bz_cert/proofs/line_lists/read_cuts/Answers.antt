use Rattle.std.proofs.Common.{◌≡◌, ◌∷◌, ◌<◌, length, rules, arith, length-append, []}
use Rattle.bz_cert.specs.CertText.{IsWritableCut}
use Rattle.bz_model.proofs.MeetingParts.{all_append}
use Rattle.bz_cert.proofs.Phases.{fails_later, fails_now}
use Rattle.bz_cert.proofs.Refusals.{handed_on}
use Rattle.bz_cert.proofs.Steps.{awaits_cut, awaits_tree, cut_fine, cuts_step}
use Rattle.bz_cert.proofs.line_lists.read_cuts.Goals as goal

pub cuts-preserved : goal.cuts-preserved
cuts-preserved c =
    let few : length c.cuts.cuts.items < c.args.count = omega (arith, c.cuts.invariant.many) in
    record {
      reads = λ verdict before a. rw c.in_ok-push.ensures.items
          (cuts_step verdict before _ _ c.args.count _ _ _ _ _ _ few c.in_ok-cut.ensures.1 (c.cuts.invariant.reads verdict before a) c.in_ok-cut.ensures.0);
      many = rw c.in_ok-push.ensures.items (omega (arith, c.cuts.invariant.many, length-append c.cuts.cuts.items (c.in_ok-cut.cut ∷ [])));
      writable = rw c.in_ok-push.ensures.items (all_append IsWritableCut c.cuts.cuts.items (c.in_ok-cut.cut ∷ []) c.cuts.invariant.writable (c.in_ok-cut.ensures.1, tt));
    }

pub returns-in_err-cut : goal.returns-in_err-cut
returns-in_err-cut c =
    let few : length c.cuts.cuts.items < c.args.count = omega (arith, c.cuts.invariant.many) in
    handed_on _ _ _ _ _ c.from_residual.ensures.1 c.in_err-cut.ensures (λ number kind h verdict before a.
    let inv = c.cuts.invariant.reads verdict before a in
    fails_later verdict before _ _ _ _ _ number kind inv.0
    (fails_now verdict _ _ _ number kind (h verdict _ (awaits_cut verdict _ c.args.count _ inv.1 few) (cut_fine verdict _))))

pub returns : goal.returns
returns c =
    let all : length c.cuts.cuts.items ≡ c.args.count = search rules in
    record {
      reads = λ verdict before a. let inv = c.cuts.invariant.reads verdict before a in
          (inv.0, awaits_tree verdict _ c.args.count _ inv.1 all);
      many = all;
      writable = c.cuts.invariant.writable;
    }
