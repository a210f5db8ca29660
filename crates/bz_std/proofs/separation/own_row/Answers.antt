use Rattle.std.proofs.Common.{rules, refl, sym, FitsSigned, to_z-of_z}
use Rattle.std.specs.Int.{w128}
use Rattle.bz_num.proofs.NarrowSums.{narrow_where_ok, wide_where_err}
use Rattle.bz_std.specs.Tasks.{right_pairs}
use Rattle.bz_std.proofs.Building.{own_is}
use Rattle.bz_std.proofs.separation.own_row.Goals as goal

pub returns-in_ok-terms-in-Ok-clause-row : goal.returns-in_ok-terms-in-Ok-clause-row
returns-in_ok-terms-in-Ok-clause-row c =
    let fits : FitsSigned w128 c.in-Ok.rhs = search rules in
    own_is c.args.point.now c.args.ineq.now c.in_ok-terms-in-Ok.terms c.in-Ok.rhs _ refl (to_z-of_z fits) c.in_ok-terms-in-Ok.ensures c.in-Ok.ensures.value

pub returns-in_ok-terms-in-Ok-clause-narrow : goal.returns-in_ok-terms-in-Ok-clause-narrow
returns-in_ok-terms-in-Ok-clause-narrow c = narrow_where_ok (right_pairs c.args.point.now c.args.ineq.now) c.right_side.result c.in-Ok.rhs c.right_side.ensures.value c.in-Ok.is

pub returns-in-Err-clause-stop : goal.returns-in-Err-clause-stop
returns-in-Err-clause-stop c = (refl, wide_where_err (right_pairs c.args.point.now c.args.ineq.now) c.right_side.result c.in-Err.field-0 c.right_side.ensures.value c.in-Err.is)
