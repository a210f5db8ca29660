-- Each clause follows from the fold that the function answers.
use Rattle.std.proofs.Common.{◌≡◌, arith, to_z, of_z, Ok}
use Rattle.std.proofs.lemmas.Grind.{common_steps}
use Rattle.std.specs.Int.{w128}
use Rattle.bz_num.specs.Fold.{fold_of}
use Rattle.bz_num.proofs.Folds.{first-from_result, sum-from_fold, narrow-from_fold}
use Rattle.bz_num.proofs.products.fold.Goals as goal

pub returns-in_err-push-clause-first : goal.returns-in_err-push-clause-first
returns-in_err-push-clause-first c =
    first-from_result c.args.pairs.now c.from_residual.result (grind (arith, common_steps))

pub returns-clause-sum : goal.returns-clause-sum
returns-clause-sum c =
    let folded : fold_of c.args.pairs.now ≡ Ok (to_z w128 (of_z w128 c.sum.result)) = grind (arith, common_steps) in
    sum-from_fold c.args.pairs.now _ folded

pub returns-clause-narrow : goal.returns-clause-narrow
returns-clause-narrow c =
    let folded : fold_of c.args.pairs.now ≡ Ok (to_z w128 (of_z w128 c.sum.result)) = grind (arith, common_steps) in
    narrow-from_fold c.args.pairs.now _ folded
