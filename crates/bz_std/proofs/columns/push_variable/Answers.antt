use Rattle.std.proofs.Common.{rules, ◌≡◌, ◌<◌, ◌+◌, ◌*◌, ◌++◌, arith, FitsSigned, to_z-of_z}
use Rattle.std.specs.Int.{w128}
use Rattle.bz_algebra.specs.Sums.{AllBelow}
use Rattle.bz_num.specs.Row.{entry_at}
use Rattle.bz_std.proofs.OverColumns.{below_more, below_up}
use Rattle.bz_std.proofs.columns.push_variable.Goals as goal

pub push-requires-2-clause-above : goal.push-requires-2-clause-above
push-requires-2-clause-above c =
    let pushed : c.push.new.self ≡ c.args.row.now ++ entry_at (2 * c.args.variable) c.args.number = rw (to_z-of_z c.ranges.number) at c.in_ok-push.ensures.value in
    rw pushed (below_more (2 * c.args.variable + 1) (2 * c.args.variable) c.args.number c.args.row.now (omega arith) (below_up (2 * c.args.variable) (2 * c.args.variable + 1) c.args.row.now (omega arith) c.requires.above))

pub returns-clause-below : goal.returns-clause-below
returns-clause-below c =
    let j = c.args.variable in
    let pushed : c.push.new.self ≡ c.args.row.now ++ entry_at (2 * j) c.args.number = rw (to_z-of_z c.ranges.number) at c.in_ok-push.ensures.value in
    let fits : FitsSigned w128 c.narrow_negation.result = search rules in
    let pushed_too : c.push-2.new.self ≡ c.push.new.self ++ entry_at (2 * j + 1) c.narrow_negation.result = rw (to_z-of_z fits) at c.in_ok-push-2.ensures.value in
    rw (pushed_too, pushed)
    (below_more (2 * (j + 1)) (2 * j + 1) c.narrow_negation.result (c.args.row.now ++ entry_at (2 * j) c.args.number) (omega arith)
    (below_more (2 * (j + 1)) (2 * j) c.args.number c.args.row.now (omega arith) (below_up (2 * j) (2 * (j + 1)) c.args.row.now (omega arith) c.requires.above)))
