use Rattle.std.proofs.Common.{pos, nat_abs, ap, IsTrue, refl, subst, sym, ◌∙◌, rules, get_or, inl, inr, FitsSigned, to_z-of_z, ◌-◌, take, drop, length}
use Rattle.std.specs.Int.{w128}
use Rattle.bz_num.specs.Row.{IsSparse}
use Rattle.bz_tree.proofs.NarrowSides.{narrow_at}
use Rattle.bz_cert.specs.CertReading.{AreTwoLists}
use Rattle.bz_cert.proofs.ListIndexes.{cut_is, lists_of_cut, of_cut, sparse_of_cut}
use Rattle.bz_cert.proofs.Refusals.{faulted, handed_on}
use Rattle.bz_cert.proofs.line_parts.cut_of.Goals as goal

pub returns-in_err-alpha : goal.returns-in_err-alpha
returns-in_err-alpha c = handed_on _ _ _ _ _ c.from_residual.ensures.1 c.in_err-alpha.ensures
    (λ n k h before. (h.0, inr (inl (h.1, λ t. t, λ cut. h.2 cut.alpha cut.mu (lists_of_cut _ c.in-len4-up.len_at_least c.requires.indexes cut)))))

pub returns-then-not-are_sparse : goal.returns-then-not-are_sparse
returns-then-not-are_sparse c = faulted _ _ _ _ c.fault-then-not-are_sparse.ensures (λ before. (
  refl,
  inr (inr (
    refl,
    λ t. t,
    of_cut _ _ _ c.in-len4-up.len_at_least c.in_ok-alpha.ensures,
    λ order. let both : IsSparse c.in_ok-alpha.field-0.first.items × IsSparse c.in_ok-alpha.field-0.second.items =
        sparse_of_cut before _ _ _ c.in-len4-up.len_at_least c.requires.indexes c.in_ok-alpha.ensures order in
        let t : IsTrue c.are_sparse.result = c.are_sparse.ensures.1
        (subst IsSparse (sym c.as_slice.ensures.value) both.0, subst IsSparse (sym c.as_slice-2.ensures.value) both.1) in
        absurd (cc (t, c.if-not-are_sparse.true)),
  )),
))

pub returns : goal.returns
returns c =
    let f0 : FitsSigned w128 (get_or c.args.numbers.now 0 (pos 0)) = search rules in
    let f1 : FitsSigned w128 (get_or c.args.numbers.now 1 (pos 0)) = search rules in
    let f2 : FitsSigned w128 (get_or c.args.numbers.now 2 (pos 0)) = search rules in
    let f3 : FitsSigned w128 (get_or c.args.numbers.now 3 (pos 0)) = search rules in
    let two : AreTwoLists c.from_vec-2.result c.from_vec.result (take (length c.args.numbers.now - 4) (drop 4 c.args.numbers.now)) =
    rw (c.from_vec.ensures, c.from_vec-2.ensures) c.in_ok-alpha.ensures in
    let both : IsSparse c.as_slice.result.now × IsSparse c.as_slice-2.result.now = c.are_sparse.ensures.0 (search rules) in
    cut_is c.args.numbers.now _
    (record { block = ap nat_abs (to_z-of_z f0); p0 = to_z-of_z f1; beta = to_z-of_z f2; gcd = to_z-of_z f3 })
    c.in-len4-up.len_at_least c.requires.indexes two
    (subst IsSparse (c.as_slice.ensures.value ∙ sym c.from_vec-2.ensures) both.0)
    (subst IsSparse (c.as_slice-2.ensures.value ∙ sym c.from_vec.ensures) both.1)

pub invariant_of-result : goal.invariant_of-result
invariant_of-result c =
    let f1 : FitsSigned w128 (get_or c.args.numbers.now 1 (pos 0)) = search rules in
    let f2 : FitsSigned w128 (get_or c.args.numbers.now 2 (pos 0)) = search rules in
    let f3 : FitsSigned w128 (get_or c.args.numbers.now 3 (pos 0)) = search rules in
    record {
      gcd_narrow = rw (to_z-of_z f3) (narrow_at c.args.numbers.now 3 c.requires.narrow);
      p0_narrow = rw (to_z-of_z f1) (narrow_at c.args.numbers.now 1 c.requires.narrow);
      beta_narrow = rw (to_z-of_z f2) (narrow_at c.args.numbers.now 2 c.requires.narrow);
    }
