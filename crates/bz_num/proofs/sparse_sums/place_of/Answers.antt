-- What the search tells.
use Rattle.std.proofs.Common.{rules}
use Rattle.std.proofs.lemmas.List.Sorted.{answers_always}
use Rattle.bz_num.proofs.SparseSums.{found_place}
use Rattle.bz_num.proofs.sparse_sums.place_of.Goals as goal

pub returns : goal.returns
returns c =
    let told = c.binary_search_by_key.ensures.position (λ pair. pair.0) (answers_always _ _ _ (λ f a r g called. search rules)) in
    rw c.ok.ensures.value (found_place c.args.column c.args.entries.now c.binary_search_by_key.result c.requires c.binary_search_by_key.ensures.bound told)
