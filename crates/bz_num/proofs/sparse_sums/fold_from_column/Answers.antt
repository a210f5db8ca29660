use Rattle.std.proofs.Common.{◌≡◌, ◌∙◌}
use Rattle.std.proofs.lemmas.List.{take_rest}
use Rattle.bz_num.specs.SparseSums.{sum_left}
use Rattle.bz_num.proofs.SparseSums.{below_left, from_column}
use Rattle.bz_num.proofs.sparse_sums.fold_from_column.Goals as goal

pub fold_rest-requires-clause-places : goal.fold_rest-requires-clause-places
fold_rest-requires-clause-places g c =
    rw (take_rest c.as_slice.result.now c.count.result, c.as_slice.ensures.value) (below_left (g.N.Numbers.count c.args.numbers.now) c.count.result c.args.row.now c.requires.places)

pub returns : goal.returns
returns g c =
    let rest : c.fold_rest.result ≡ sum_left c.args.row.now (g.N.Numbers.at c.args.numbers.now) c.pass_before.new.folding =
    rw (take_rest c.as_slice.result.now c.count.result, c.as_slice.ensures.value, c.count.ensures.value) at c.fold_rest.ensures in
    λ f h.
    rest
    ∙ from_column c.args.column c.args.row.now f (g.N.Numbers.at c.args.numbers.now) c.pass_before.new.folding h c.pass_before.ensures.behind
    ∙ c.pass_before.ensures.left f h.nothing
