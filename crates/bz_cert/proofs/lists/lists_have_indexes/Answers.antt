use Rattle.std.proofs.Common.{ℤ, List, ◌↔◌, IsTrue, subst}
use Rattle.std.specs.List.{AllByRecursion}
use Rattle.bz_cert.specs.CertFaults.{IsIndex, list_indexes}
use Rattle.bz_cert.proofs.ListLemmas.{also_second, not_first}
use Rattle.bz_cert.proofs.lists.lists_have_indexes.Goals as goal

pub returns-then-list_has_indexes : goal.returns-then-list_has_indexes
returns-then-list_has_indexes c = also_second IsIndex _ _ _ (c.list_has_indexes.ensures.0 c.if-list_has_indexes.true)
    (subst (λ (ns : List ℤ). IsTrue c.list_has_indexes-then-list_has_indexes.result ↔ AllByRecursion IsIndex (list_indexes ns))
    c.behind_list.ensures c.list_has_indexes-then-list_has_indexes.ensures)

pub returns-else-list_has_indexes : goal.returns-else-list_has_indexes
returns-else-list_has_indexes c = not_first IsIndex _ _ _ c.if-list_has_indexes.false c.list_has_indexes.ensures
