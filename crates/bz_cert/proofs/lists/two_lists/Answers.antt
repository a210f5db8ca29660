use Rattle.std.proofs.Common.{[], refl, rules}
use Rattle.bz_cert.proofs.Refusals.{faulted, handed_on}
use Rattle.bz_cert.proofs.SparseLists.{behind_first, first_of_two, not_empty, nothing_behind}
use Rattle.bz_cert.specs.CertText.{sparse_numbers}
use Rattle.bz_cert.proofs.lists.two_lists.Goals as goal

pub returns-in_err-first : goal.returns-in_err-first
returns-in_err-first c = handed_on _ _ _ _ _ c.from_residual.ensures.1 c.in_err-first.ensures
    (λ n k h. (h.0, h.1, λ es fs two. h.2 es (sparse_numbers fs) (first_of_two _ _ _ two)))

pub returns-in_err-second : goal.returns-in_err-second
returns-in_err-second c = handed_on _ _ _ _ _ c.from_residual-in_err-second.ensures.1 c.in_err-second.ensures
    (λ n k h. (h.0, h.1, λ es fs two. h.2 fs [] (behind_first _ es fs _ _ c.in_ok-first.ensures two)))

pub returns-else-is_empty : goal.returns-else-is_empty
returns-else-is_empty c = faulted _ _ _ _ c.fault.ensures (
  refl,
  refl,
  λ es fs two.
      not_empty _ (search rules) (nothing_behind _ _ _ _ c.in_ok-second.ensures (behind_first _ es fs _ _ c.in_ok-first.ensures two)),
)
