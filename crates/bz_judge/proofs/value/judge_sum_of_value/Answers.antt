use Rattle.std.proofs.Common.{rules, ◌≡◌, ◌+ℤ◌, ℕ, ℤ, List, [], ◌∷◌, FitsSigned, to_z-of_z}
use Rattle.std.specs.Int.{w128}
use Rattle.bz_algebra.specs.Sums.{dot}
use Rattle.bz_num.specs.Fold.{IsNarrowSum}
use Rattle.bz_model.specs.Parting.{inner_cost, terms_in}
use Rattle.bz_model.specs.Points.{coordinate}
use Rattle.bz_first.specs.Tests.{Test, test}
use Rattle.bz_first.proofs.TestLemmas.{judges_then}
use Rattle.bz_model.specs.PartPoints.{total}
use Rattle.bz_judge.specs.declared.faults.CheckFault.{CheckFault}
use Rattle.bz_judge.specs.declared.faults.CheckFault.TheVariants.{Value, Wide}
use Rattle.bz_model.specs.PointSums.{value_pairs}
use Rattle.bz_judge.proofs.FoundSums.{value_found}
use Rattle.bz_judge.proofs.value.judge_sum_of_value.Goals as goal

pub returns : goal.returns
returns c =
    let cost : List (ℕ × ℤ) = terms_in c.args.split.now.part 0 (inner_cost c.args.split.now.model) in
    let found : c.in_ok-sum.sum ≡ dot cost (coordinate c.args.master.now.x) +ℤ total c.args.master.now.eta = value_found cost c.args.master.now c.value_sum.result c.in_ok-sum.sum c.value_sum.ensures c.in_ok-sum.ensures.sum in
    let fits : FitsSigned w128 c.in_ok-sum.sum = search rules in
    let front : List (Test CheckFault) = test (Wide 1 0) (IsNarrowSum (value_pairs cost c.args.master.now)) ∷ [] in
    let rest : List (Test CheckFault) = test Value (c.args.value ≡ dot cost (coordinate c.args.master.now.x) +ℤ total c.args.master.now.eta) ∷ [] in
    judges_then front rest c.judge_equal.result (c.in_ok-sum.ensures.judges (value_pairs cost c.args.master.now) c.value_sum.ensures) (rw (← found) (rw (to_z-of_z fits, to_z-of_z c.ranges.value) at c.judge_equal.ensures))
