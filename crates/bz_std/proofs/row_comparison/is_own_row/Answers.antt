use Rattle.std.proofs.Common.{rules, ◌≡◌, ◌↔◌, IsTrue, sym, subst, ℤ, FitsSigned, to_z-of_z}
use Rattle.std.specs.Int.{w128}
use Rattle.bz_num.specs.Fold.{products}
use Rattle.bz_num.proofs.Folds.{sum-from_fold}
use Rattle.bz_num.proofs.NarrowSums.{narrow_where_ok, wide_where_err}
use Rattle.bz_std.specs.Posed.{IsRowOf}
use Rattle.bz_std.specs.Tasks.{right_pairs}
use Rattle.bz_std.proofs.Tested.{refuted, told}
use Rattle.bz_std.proofs.row_comparison.is_own_row.Goals as goal

pub returns-in-Ok : goal.returns-in-Ok
returns-in-Ok c =
    let ineq = c.args.ineq.now in
    let pairs = right_pairs c.args.point.now ineq in
    let fits : FitsSigned w128 c.in-Ok.rhs = search rules in
    let same : products pairs ≡ c.in-Ok.rhs = sym (sum-from_fold pairs c.in-Ok.rhs (sym c.in-Ok.ensures.value)) in
    let line : IsTrue c.is_line.result ↔ IsRowOf (record { terms = ineq.own; rhs = c.in-Ok.rhs }) c.args.row.now = rw (to_z-of_z fits) at c.is_line.ensures in
    told line
    (λ r. record {
      line = subst (λ (z : ℤ). IsRowOf (record { terms = ineq.own; rhs = z }) c.args.row.now) (sym same) r;
      narrow = narrow_where_ok pairs c.right_side.result c.in-Ok.rhs c.right_side.ensures.value c.in-Ok.is;
    })
    (λ o. subst (λ (z : ℤ). IsRowOf (record { terms = ineq.own; rhs = z }) c.args.row.now) same o.line)

pub returns-in-Err : goal.returns-in-Err
returns-in-Err c = refuted (λ o. wide_where_err (right_pairs c.args.point.now c.args.ineq.now) c.right_side.result c.in-Err.field-0 c.right_side.ensures.value c.in-Err.is o.narrow)
