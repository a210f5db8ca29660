use Rattle.std.proofs.Common.{rules, ◌≡◌, refl, sym, [], ◌∷◌, ◌++◌, Ok, Err, FitsSigned, to_z-of_z}
use Rattle.std.specs.Int.{w128}
use Rattle.bz_algebra.specs.Sums.{coef}
use Rattle.bz_num.specs.Fold.{fold_of, pairs_at}
use Rattle.bz_num.proofs.NarrowSums.{dot_where_ok, narrow_where_ok, result_narrow, wide_where_err}
use Rattle.bz_cut.specs.Rows.{master_at}
use Rattle.bz_std.specs.Making.{StopsSums, master_sum}
use Rattle.bz_std.proofs.CutNumbers.{narrow_more}
use Rattle.bz_std.proofs.LeafNumbers.{stops_wide}
use Rattle.bz_std.proofs.NumberListsMade.{numbers_next}
use Rattle.bz_std.proofs.cuts.master_sums.Goals as goal

pub returns-in_err-sum-clause-stop : goal.returns-in_err-sum-clause-stop
returns-in_err-sum-clause-stop c =
    let wide : Err c.in_err-sum.field-0.0 ≡ fold_of (pairs_at c.args.mu.now (λ n. coef (master_at c.args.rows.now n) c.loop-position.position)) = c.in_err-sum.ensures in
    stops_wide (StopsSums c.args.width c.args.rows.now c.args.mu.now) c.from_residual.result c.from_residual.ensures.1 (λ h. wide_where_err (pairs_at c.args.mu.now (λ n. coef (master_at c.args.rows.now n) c.loop-position.position)) (Err c.in_err-sum.field-0.0) c.in_err-sum.field-0.0 wide refl (h.master c.loop-position.position c.loop-position-test.true))

pub loop-position-preserved : goal.loop-position-preserved
loop-position-preserved c =
    let fits : FitsSigned w128 c.in_ok-sum.sum = search rules in
    let sum : Ok c.in_ok-sum.sum ≡ fold_of (pairs_at c.args.mu.now (λ n. coef (master_at c.args.rows.now n) c.loop-position.position)) = c.in_ok-sum.ensures in
    let pushed : c.push_number.new.numbers.items ≡ c.loop-position.sums.items ++ c.in_ok-sum.sum ∷ [] = rw (to_z-of_z fits) at c.in_ok-push_number.ensures in
    record {
      numbers = rw pushed (numbers_next c.loop-position.position (master_sum c.args.mu.now c.args.rows.now) c.loop-position.sums.items c.in_ok-sum.sum (sym (dot_where_ok c.args.mu.now (λ n. coef (master_at c.args.rows.now n) c.loop-position.position) (Ok c.in_ok-sum.sum) c.in_ok-sum.sum sum refl)) (result_narrow (pairs_at c.args.mu.now (λ n. coef (master_at c.args.rows.now n) c.loop-position.position)) c.in_ok-sum.sum (sym sum)) c.loop-position.invariant.numbers);
      narrow = narrow_more c.loop-position.position c.args.rows.now c.args.mu.now c.loop-position.invariant.narrow (narrow_where_ok (pairs_at c.args.mu.now (λ n. coef (master_at c.args.rows.now n) c.loop-position.position)) (Ok c.in_ok-sum.sum) c.in_ok-sum.sum sum refl);
    }
