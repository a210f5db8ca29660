use Rattle.std.proofs.Common.{refl, ◌++◌, length}
use Rattle.bz_cert.proofs.Refusals.{faulted}
use Rattle.bz_cert.proofs.SparseLists.{pair_numbers}
use Rattle.bz_cert.proofs.lists.take_list.Goals as goal

pub returns-in_default : goal.returns-in_default
returns-in_default c = faulted _ _ _ _ c.fault.ensures
    (refl, refl, λ es rest h. c.in_default.ensures.none (length es) (pair_numbers es ++ rest) h.laid_out h.count)
