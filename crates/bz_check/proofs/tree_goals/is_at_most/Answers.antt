use Rattle.std.proofs.Common.{rules, ◌*ℤ◌}
use Rattle.bz_num.proofs.Comparing.{at_most_tells}
use Rattle.bz_check.proofs.tree_goals.is_at_most.Goals as goal

pub returns : goal.returns
returns c =
    let tells = at_most_tells (c.args.value *ℤ c.args.delta) (c.args.bound *ℤ c.args.den) c.cmp_quotients.result (search rules) in
    rw c.is_le.ensures tells
