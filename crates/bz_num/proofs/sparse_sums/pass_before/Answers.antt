use Rattle.std.proofs.Common.{◌≡◌, ◌+◌, ◌-◌, ◌<◌}
use Rattle.bz_num.specs.SparseSums.{IsCountBefore}
use Rattle.bz_num.proofs.SparseSums.{passed_before}
use Rattle.bz_num.proofs.sparse_sums.pass_before.Goals as goal

pub returns-then-count-clause-left : goal.returns-then-count-clause-left
returns-then-count-clause-left c =
    let fewer : c.args.folding.now.count < c.count_before-count.result = rw c.count.ensures.value at c.if-count.true in
    let counted : IsCountBefore c.args.column c.args.row.now c.count_before-count.result = rw c.as_slice.ensures.value at c.count_before-count.ensures in
    let passed : c.pass.new.self ≡ record { sum = c.args.folding.now.sum; count = c.args.folding.now.count + (c.count_before-count.result - c.args.folding.now.count) } = rw c.count-then-count.ensures.value at c.pass.ensures in
    λ f h. passed_before c.args.column c.count_before-count.result c.args.row.now f c.args.folding.now c.pass.new.self counted c.count.ensures.narrow fewer passed h
