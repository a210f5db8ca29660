use Rattle.std.proofs.Common.{refl, to_z-of_z}
use Rattle.bz_check.proofs.Splitting.{split_judged}
use Rattle.bz_check.proofs.tree_walk.judge_split.Goals as goal

pub returns-clause-judges : goal.returns-clause-judges
returns-clause-judges c = λ m part are.
    let next = rw (to_z-of_z c.ranges.left, to_z-of_z c.ranges.right) at c.if-not-is_next.ensures in
    split_judged m part c.args.positions.now c.args.node c.args.position c.args.left c.args.right c.integer_column.result c.ok_or.result are (next.0 refl) c.integer_column.ensures c.ok_or.ensures.value
