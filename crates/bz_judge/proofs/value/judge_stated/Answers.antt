use Rattle.std.proofs.Common.{rules, ◌≡◌, ◌*ℤ◌, List, [], ◌∷◌, ◌++◌, to_z-of_z}
use Rattle.bz_algebra.specs.Numbers.{IsNarrow}
use Rattle.bz_num.specs.Fold.{IsNarrowSum, fold_of}
use Rattle.bz_first.specs.Tests.{IsFirstFault, Test, test}
use Rattle.bz_first.proofs.TestLemmas.{fault_behind, fault_in_front}
use Rattle.bz_judge.specs.declared.faults.CheckFault.{CheckFault}
use Rattle.bz_judge.specs.declared.faults.CheckFault.TheVariants.{Wide}
use Rattle.bz_model.specs.PointSums.{stated_pairs}
use Rattle.bz_first.proofs.Chains.{passed_on}
use Rattle.bz_judge.proofs.value.judge_stated.Goals as goal

pub returns-in_err-judge_fold : goal.returns-in_err-judge_fold
returns-in_err-judge_fold c =
    let front : List (Test CheckFault) = test (Wide 2 0) (IsNarrowSum (stated_pairs c.args.model.now c.args.value c.args.den)) ∷ [] in
    let rest : List (Test CheckFault) = test (Wide 2 1) (IsNarrow (c.args.model.now.scale *ℤ c.args.den)) ∷ [] in
    let sum : c.numerator.result ≡ fold_of (stated_pairs c.args.model.now c.args.value c.args.den) = rw (to_z-of_z c.ranges.value, to_z-of_z c.ranges.den) at c.numerator.ensures.fold in
    passed_on (front ++ rest) c.in_err-judge_fold.field-0.0 c.from_residual.result c.from_residual.ensures.1 (fault_in_front front rest c.in_err-judge_fold.field-0.0 (rw c.wide_in.ensures at c.in_err-judge_fold.ensures.judges (stated_pairs c.args.model.now c.args.value c.args.den) sum))

pub returns-in_err-judge_product : goal.returns-in_err-judge_product
returns-in_err-judge_product c =
    let front : List (Test CheckFault) = test (Wide 2 0) (IsNarrowSum (stated_pairs c.args.model.now c.args.value c.args.den)) ∷ [] in
    let rest : List (Test CheckFault) = test (Wide 2 1) (IsNarrow (c.args.model.now.scale *ℤ c.args.den)) ∷ [] in
    let sum : c.numerator.result ≡ fold_of (stated_pairs c.args.model.now c.args.value c.args.den) = rw (to_z-of_z c.ranges.value, to_z-of_z c.ranges.den) at c.numerator.ensures.fold in
    let fault : IsFirstFault rest c.in_err-judge_product.field-0.0 = search rules in
    passed_on (front ++ rest) c.in_err-judge_product.field-0.0 c.from_residual-in_err-judge_product.result c.from_residual-in_err-judge_product.ensures.1 (fault_behind front rest c.in_err-judge_product.field-0.0 (c.in_ok-judge_fold.ensures.judges (stated_pairs c.args.model.now c.args.value c.args.den) sum) fault)

pub returns : goal.returns
returns c =
    let sum : c.numerator.result ≡ fold_of (stated_pairs c.args.model.now c.args.value c.args.den) = rw (to_z-of_z c.ranges.value, to_z-of_z c.ranges.den) at c.numerator.ensures.fold in
    let product : IsNarrow (c.args.model.now.scale *ℤ c.args.den) = search rules in
    ((c.in_ok-judge_fold.ensures.judges (stated_pairs c.args.model.now c.args.value c.args.den) sum).0, (product, tt))
