use Rattle.std.proofs.Common.{◌∙◌, FitsSigned, to_z-of_z, ◌*ℤ◌}
use Rattle.std.specs.Int.{w128}
use Rattle.bz_rules.proofs.Decided.{above_by_order}
use Rattle.bz_rules.proofs.deciding.is_above.Goals as goal

pub returns : goal.returns
returns c =
    let n : FitsSigned w128 c.args.n = c.ranges.n in
    let d : FitsSigned w128 c.args.d = c.ranges.d in
    let m : FitsSigned w128 c.args.m = c.ranges.m in
    let e : FitsSigned w128 c.args.e = c.ranges.e in
    c.eq.ensures ∙ above_by_order (c.args.n *ℤ c.args.e) (c.args.m *ℤ c.args.d) c.cmp_quotients.result (rw (to_z-of_z n, to_z-of_z d, to_z-of_z m, to_z-of_z e) at c.cmp_quotients.ensures)
