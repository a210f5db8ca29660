use Rattle.std.proofs.Common.{[], IsTrue, refl, subst, sym, rules, inl, inr, arith}
use Rattle.bz_num.specs.Row.{IsSparse}
use Rattle.bz_cert.proofs.ListIndexes.{list_of_leaf, of_leaf, sparse_of_leaf}
use Rattle.bz_cert.proofs.SparseLists.{empty_now, nothing_behind, not_empty}
use Rattle.bz_cert.proofs.Refusals.{faulted, handed_on}
use Rattle.bz_cert.proofs.line_parts.leaf_of.Goals as goal

pub returns-in_err-lambda : goal.returns-in_err-lambda
returns-in_err-lambda c = handed_on _ _ _ _ _ c.from_residual.ensures.1 c.in_err-lambda.ensures
    (λ n k h before few. (h.0, inr (inl (h.1, λ t. omega arith, λ leaf. h.2 leaf.lambda [] (list_of_leaf _ c.in-len2-up.len_at_least c.requires.indexes leaf)))))

pub returns-then-not-is_empty : goal.returns-then-not-is_empty
returns-then-not-is_empty c = faulted _ _ _ _ c.fault-then-not-is_empty.ensures (λ before few. (
  refl,
  inr (inl (
    refl,
    λ t. omega arith,
    λ leaf.
        not_empty _ (search rules) (nothing_behind _ _ _ _ c.in_ok-lambda.ensures (list_of_leaf _ c.in-len2-up.len_at_least c.requires.indexes leaf)),
  )),
))

pub returns-then-not-is_sparse : goal.returns-then-not-is_sparse
returns-then-not-is_sparse c = faulted _ _ _ _ c.fault-then-not-is_sparse.ensures (λ before few. (
  refl,
  inr (inr (
    refl,
    λ t. omega arith,
    of_leaf _ _ _ c.in-len2-up.len_at_least c.in_ok-lambda.ensures (empty_now _ (search rules)),
    λ order. let sparse : IsSparse c.in_ok-lambda.field-0.pairs.items =
        sparse_of_leaf before _ _ _ c.in-len2-up.len_at_least c.requires.indexes c.in_ok-lambda.ensures order in
        let t : IsTrue c.is_sparse.result = c.is_sparse.ensures.1 (subst IsSparse (sym c.as_slice.ensures.value) sparse) in
        absurd (cc (t, c.if-not-is_sparse.true)),
  )),
))
