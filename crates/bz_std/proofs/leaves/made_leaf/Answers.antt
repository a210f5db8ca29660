use Rattle.std.proofs.Common.{rules, refl, ◌≡◌, ◌∙◌, sym, ap, ◌<◌, length, map, neg_ℤ, Ok, Err, FitsSigned, to_z-of_z}
use Rattle.std.specs.Int.{w128}
use Rattle.std.proofs.lemmas.List.{length-map}
use Rattle.bz_num.specs.Dense.{entry}
use Rattle.bz_num.specs.Fold.{fold_of, pairs_at}
use Rattle.bz_num.proofs.NarrowSums.{dot_where_ok, narrow_where_ok, result_narrow, wide_where_err}
use Rattle.bz_std.specs.CutsFrom.{AreEntries}
use Rattle.bz_std.specs.Making.{StopsLeaf, StopsLines}
use Rattle.bz_std.specs.Meanings.{right_at}
use Rattle.bz_std.specs.Posed.{line_of}
use Rattle.bz_std.proofs.LeafNumbers.{bound_is, bound_narrow, bound_wide, entries_posed, stops_wide}
use Rattle.bz_std.proofs.OneRowLists.{stored_nonnegative}
use Rattle.bz_std.proofs.leaves.made_leaf.Goals as goal

pub entries_of-requires-clause-narrow : goal.entries_of-requires-clause-narrow
entries_of-requires-clause-narrow c = λ i l.
    let inside : i < length c.args.lp.now.rows = rw c.as_slice-rows.ensures at l in
    stored_nonnegative (entry c.args.y.now i) (c.requires.multipliers i inside)

pub returns-in_err-sum-clause-stop : goal.returns-in_err-sum-clause-stop
returns-in_err-sum-clause-stop c =
    let mine : AreEntries (length c.args.lp.now.rows) (entry c.args.y.now) c.in_ok-lambda.lambda = rw c.as_slice-rows.ensures at c.in_ok-lambda.ensures in
    let wide : Err c.in_err-sum.field-0.0 ≡ fold_of (pairs_at c.in_ok-lambda.lambda (right_at (map line_of c.args.lp.now.rows))) = rw c.as_slice-rows.ensures at c.in_err-sum.ensures in
    stops_wide (StopsLeaf c.args.lp.now (entry c.args.y.now)) c.from_residual-in_err-sum.result c.from_residual-in_err-sum.ensures.1 (λ q h. bound_wide q c.args.lp.now h (entry c.args.y.now) c.in_ok-lambda.lambda mine c.in_err-sum.field-0.0 wide)

pub narrow_negation-requires : goal.narrow_negation-requires
narrow_negation-requires c =
    let fits : FitsSigned w128 c.in_ok-sum.sum = search rules in
    rw (to_z-of_z fits) (result_narrow (pairs_at c.in_ok-lambda.lambda (right_at (map line_of c.as_slice-rows.result.now))) c.in_ok-sum.sum (sym c.in_ok-sum.ensures))

pub returns-clause-leaf : goal.returns-clause-leaf
returns-clause-leaf c =
    let fits : FitsSigned w128 c.in_ok-sum.sum = search rules in
    let fits_bound : FitsSigned w128 c.narrow_negation.result = search rules in
    let mine : AreEntries (length c.args.lp.now.rows) (entry c.args.y.now) c.in_ok-lambda.lambda = rw c.as_slice-rows.ensures at c.in_ok-lambda.ensures in
    let sum : Ok c.in_ok-sum.sum ≡ fold_of (pairs_at c.in_ok-lambda.lambda (right_at (map line_of c.args.lp.now.rows))) = rw c.as_slice-rows.ensures at c.in_ok-sum.ensures in
    let bound : c.narrow_negation.result ≡ neg_ℤ c.in_ok-sum.sum = rw (to_z-of_z fits) at c.narrow_negation.ensures.value in
    λ q h. record {
      lambda = entries_posed q c.args.lp.now h (entry c.args.y.now) c.in_ok-lambda.lambda mine;
      delta = to_z-of_z c.ranges.by;
      bound = to_z-of_z fits_bound ∙ bound ∙ ap neg_ℤ (sym (bound_is q c.args.lp.now h (entry c.args.y.now) c.in_ok-lambda.lambda mine c.in_ok-sum.sum sum));
    }

pub returns-clause-narrow : goal.returns-clause-narrow
returns-clause-narrow c =
    let mine : AreEntries (length c.args.lp.now.rows) (entry c.args.y.now) c.in_ok-lambda.lambda = rw c.as_slice-rows.ensures at c.in_ok-lambda.ensures in
    let sum : Ok c.in_ok-sum.sum ≡ fold_of (pairs_at c.in_ok-lambda.lambda (right_at (map line_of c.args.lp.now.rows))) = rw c.as_slice-rows.ensures at c.in_ok-sum.ensures in
    λ q h. bound_narrow q c.args.lp.now h (entry c.args.y.now) c.in_ok-lambda.lambda mine c.in_ok-sum.sum sum

pub returns-in_err-sum-clause-wide : goal.returns-in_err-sum-clause-wide
returns-in_err-sum-clause-wide c =
    let lines = map line_of c.args.lp.now.rows in
    let mine : AreEntries (length lines) (entry c.args.y.now) c.in_ok-lambda.lambda = rw (length-map c.args.lp.now.rows line_of, ← c.as_slice-rows.ensures) c.in_ok-lambda.ensures in
    let wide : Err c.in_err-sum.field-0.0 ≡ fold_of (pairs_at c.in_ok-lambda.lambda (right_at lines)) = rw c.as_slice-rows.ensures at c.in_err-sum.ensures in
    stops_wide (StopsLines lines (entry c.args.y.now)) c.from_residual-in_err-sum.result c.from_residual-in_err-sum.ensures.1 (record { lambda = c.in_ok-lambda.lambda; entries = mine; wide = wide_where_err (pairs_at c.in_ok-lambda.lambda (right_at lines)) (Err c.in_err-sum.field-0.0) c.in_err-sum.field-0.0 wide refl })

pub returns-clause-made : goal.returns-clause-made
returns-clause-made c =
    let lines = map line_of c.args.lp.now.rows in
    let fits : FitsSigned w128 c.in_ok-sum.sum = search rules in
    let fits_bound : FitsSigned w128 c.narrow_negation.result = search rules in
    let mine : AreEntries (length lines) (entry c.args.y.now) c.in_ok-lambda.lambda = rw (length-map c.args.lp.now.rows line_of, ← c.as_slice-rows.ensures) c.in_ok-lambda.ensures in
    let sum : Ok c.in_ok-sum.sum ≡ fold_of (pairs_at c.in_ok-lambda.lambda (right_at lines)) = rw c.as_slice-rows.ensures at c.in_ok-sum.ensures in
    let bound : c.narrow_negation.result ≡ neg_ℤ c.in_ok-sum.sum = rw (to_z-of_z fits) at c.narrow_negation.ensures.value in
    record {
      lambda = mine;
      delta = to_z-of_z c.ranges.by;
      bound = to_z-of_z fits_bound ∙ bound ∙ ap neg_ℤ (sym (dot_where_ok c.in_ok-lambda.lambda (right_at lines) (Ok c.in_ok-sum.sum) c.in_ok-sum.sum sum refl));
      narrow = narrow_where_ok (pairs_at c.in_ok-lambda.lambda (right_at lines)) (Ok c.in_ok-sum.sum) c.in_ok-sum.sum sum refl;
    }
