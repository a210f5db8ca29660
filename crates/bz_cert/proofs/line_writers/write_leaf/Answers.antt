use Rattle.std.proofs.Common.{rules, FitsSigned, to_z-of_z}
use Rattle.std.specs.Int.{w128}
use Rattle.bz_cert.proofs.Written.{leaf_added, ok_also}
use Rattle.bz_cert.proofs.line_writers.write_leaf.Goals as goal

pub returns-clause-text : goal.returns-clause-text
returns-clause-text c =
    let delta_fits : FitsSigned w128 c.args.leaf.now.delta = search rules in
    let bound_fits : FitsSigned w128 c.args.leaf.now.bound = search rules in
    ok_also c.end_line.result _ _
    (λ feed. leaf_added _ _ _ _ _ _ c.args.leaf.now c.in_ok-begin_line.ensures (rw (to_z-of_z delta_fits) at c.in_ok-write_number.ensures)
    (rw (to_z-of_z bound_fits) at c.in_ok-write_number-2.ensures) c.in_ok-write_list.ensures.text feed)
    c.end_line.ensures
