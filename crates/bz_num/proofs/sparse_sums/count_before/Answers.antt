use Rattle.std.proofs.Common.{rules}
use Rattle.std.proofs.lemmas.List.Sorted.{answers_always}
use Rattle.bz_num.proofs.SparseSums.{counted_found, counted_missing}
use Rattle.bz_num.proofs.sparse_sums.count_before.Goals as goal

pub returns-in-Ok : goal.returns-in-Ok
returns-in-Ok c =
    counted_found c.args.column c.args.entries.now c.in-Ok.place c.requires c.in-Ok.ensures.bound
    (c.in-Ok.ensures.position (λ pair. pair.0) (answers_always _ _ _ (λ f a r g called. search rules)))

pub returns-in-Err : goal.returns-in-Err
returns-in-Err c =
    counted_missing c.args.column c.args.entries.now c.in-Err.place c.requires c.in-Err.ensures.bound
    (c.in-Err.ensures.position (λ pair. pair.0) (answers_always _ _ _ (λ f a r g called. search rules)))
