use Rattle.std.proofs.Common.{◌++◌, ◌∙◌, arith, ap, inl, inr, refl, append-nil}
use Rattle.bz_cert.specs.CertText.{bound_lines, laid_out}
use Rattle.bz_cert.proofs.Bounds.{awaits_cuts, awaits_first_node, bound_ends, count_fine, count_read, cuts_read, end_read, others_break, tree_read}
use Rattle.bz_cert.proofs.Phases.{fails_later, fails_now}
use Rattle.bz_cert.proofs.Refusals.{handed_on}
use Rattle.bz_cert.proofs.body.read_bound.Goals as goal

pub returns-in_err-count : goal.returns-in_err-count
returns-in_err-count c = handed_on _ _ _ _ _ c.from_residual.ensures.1 c.in_err-count.ensures (λ number kind h verdict before a.
    fails_now verdict before _ _ number kind (h verdict before a.awaits (count_fine verdict before)))

pub returns-in_err-cuts : goal.returns-in_err-cuts
returns-in_err-cuts c = handed_on _ _ _ _ _ c.from_residual-in_err-cuts.ensures.1 c.in_err-cuts.ensures (λ number kind h verdict before a.
    fails_later verdict before _ _ _ _ _ number kind (count_read verdict before _ _ _ _ _ a c.in_ok-count.ensures.0 c.in_ok-count.ensures.1)
    (h verdict _ (awaits_cuts verdict before _ a)))

pub returns-in_err-tree : goal.returns-in_err-tree
returns-in_err-tree c = handed_on _ _ _ _ _ c.from_residual-in_err-tree.ensures.1 c.in_err-tree.ensures (λ number kind h verdict before a.
    let r1 = count_read verdict before _ _ _ _ _ a c.in_ok-count.ensures.0 c.in_ok-count.ensures.1 in
    let r2 = cuts_read verdict before _ _ _ _ _ _ _ _ a r1 c.in_ok-cuts.ensures in
    fails_later verdict before _ _ _ _ _ number kind r2 (h verdict _ (awaits_first_node verdict before _ _ _ _ _ _ a c.in_ok-cuts.ensures)))

pub returns-in_err-end : goal.returns-in_err-end
returns-in_err-end c = handed_on _ _ _ _ _ c.from_residual-in_err-end.ensures.1 c.in_err-end.ensures (λ number kind h verdict before a.
    let r1 = count_read verdict before _ _ _ _ _ a c.in_ok-count.ensures.0 c.in_ok-count.ensures.1 in
    let r2 = cuts_read verdict before _ _ _ _ _ _ _ _ a r1 c.in_ok-cuts.ensures in
    let r3 = tree_read verdict before _ _ _ _ _ _ _ _ _ _ _ a r2 c.in_ok-cuts.ensures c.in_ok-tree.ensures in
    fails_later verdict before _ _ _ _ _ number kind r3.0
    (fails_now verdict _ _ _ number kind (h verdict _ r3.1 (inr (inr (inl refl))) (a.stays _ r3.2) (others_break verdict _ r3.2))))

pub returns-in_err-finish : goal.returns-in_err-finish
returns-in_err-finish c = handed_on _ _ _ _ _ c.from_residual-in_err-finish.ensures.1 c.in_err-finish.ensures (λ number kind h verdict before a.
    let r1 = count_read verdict before _ _ _ _ _ a c.in_ok-count.ensures.0 c.in_ok-count.ensures.1 in
    let r2 = cuts_read verdict before _ _ _ _ _ _ _ _ a r1 c.in_ok-cuts.ensures in
    let r3 = tree_read verdict before _ _ _ _ _ _ _ _ _ _ _ a r2 c.in_ok-cuts.ensures c.in_ok-tree.ensures in
    let r4 = end_read verdict before _ _ _ _ _ _ _ _ _ a r3 c.in_ok-cuts.ensures.many c.in_ok-end.ensures in
    fails_later verdict before _ _ _ _ _ number kind r4 (fails_now verdict _ _ _ number kind (h verdict _ (bound_ends before c.in_ok-cuts.cuts.items c.in_ok-tree.tree.items))))

pub returns : goal.returns
returns c = record {
  reads = λ verdict before a.
      let r1 = count_read verdict before _ _ _ _ _ a c.in_ok-count.ensures.0 c.in_ok-count.ensures.1 in
      let r2 = cuts_read verdict before _ _ _ _ _ _ _ _ a r1 c.in_ok-cuts.ensures in
      let r3 = tree_read verdict before _ _ _ _ _ _ _ _ _ _ _ a r2 c.in_ok-cuts.ensures c.in_ok-tree.ensures in
      let r4 = end_read verdict before _ _ _ _ _ _ _ _ _ a r3 c.in_ok-cuts.ensures.many c.in_ok-end.ensures in
      (r4.joined ∙ ap (λ t. laid_out (bound_lines c.in_ok-cuts.cuts.items c.in_ok-tree.tree.items) ++ t) c.in_ok-finish.ensures ∙ append-nil _, r4.pass);
  few_cuts = omega (arith, c.in_ok-cuts.ensures.many, c.in_ok-count.ensures.1);
  writable_cuts = c.in_ok-cuts.ensures.writable;
  few_nodes = c.in_ok-tree.ensures.few;
  writable_nodes = c.in_ok-tree.ensures.writable;
  whole = c.in_ok-tree.ensures.tree;
  is_tree = c.in_ok-tree.ensures.is_tree;
}
