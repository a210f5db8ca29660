use Rattle.std.proofs.Common.{ℤ, List, ◌↔◌, IsTrue, subst}
use Rattle.std.specs.List.{AllByRecursion}
use Rattle.bz_cert.specs.CertFaults.{IsIndex, lists_indexes}
use Rattle.bz_cert.proofs.ListLemmas.{also_second, not_first}
use Rattle.bz_cert.proofs.lists.cut_has_indexes.Goals as goal

pub returns-then-begins_with_index : goal.returns-then-begins_with_index
returns-then-begins_with_index c = also_second IsIndex _ _ _ (c.begins_with_index.ensures.0 c.if-begins_with_index.true)
    (subst (λ (ns : List ℤ). IsTrue c.lists_have_indexes.result ↔ AllByRecursion IsIndex (lists_indexes ns))
    c.from_place.ensures c.lists_have_indexes.ensures)

pub returns-else-begins_with_index : goal.returns-else-begins_with_index
returns-else-begins_with_index c = not_first IsIndex _ _ _ c.if-begins_with_index.false c.begins_with_index.ensures
