use Rattle.std.proofs.Common.{rules, ◌≡◌, ◌+ℤ◌, ◌*ℤ◌, ℕ, ℤ, List, [], ◌∷◌, FitsSigned, to_z-of_z}
use Rattle.std.specs.Int.{w128}
use Rattle.bz_algebra.specs.Numbers.{IsNarrow}
use Rattle.bz_algebra.specs.Sums.{dot}
use Rattle.bz_num.specs.Fold.{IsNarrowSum}
use Rattle.bz_model.specs.Parting.{inner_cost, terms_in}
use Rattle.bz_model.specs.Points.{coordinate}
use Rattle.bz_first.specs.Tests.{Test, test}
use Rattle.bz_first.proofs.TestLemmas.{judges_then}
use Rattle.bz_model.specs.PartPoints.{total}
use Rattle.bz_judge.specs.declared.faults.CheckFault.{CheckFault}
use Rattle.bz_judge.specs.declared.faults.CheckFault.TheVariants.{Value, Wide}
use Rattle.bz_model.specs.PointSums.{stated_pairs, value_pairs}
use Rattle.bz_judge.proofs.value.judge_value.Goals as goal

pub returns : goal.returns
returns c =
    let cost : List (ℕ × ℤ) = terms_in c.args.split.now.part 0 (inner_cost c.args.split.now.model) in
    let fits : FitsSigned w128 c.args.master.now.den = search rules in
    let front : List (Test CheckFault) = test (Wide 1 0) (IsNarrowSum (value_pairs cost c.args.master.now)) ∷ test Value (c.args.value ≡ dot cost (coordinate c.args.master.now.x) +ℤ total c.args.master.now.eta) ∷ [] in
    let rest : List (Test CheckFault) = test (Wide 2 0) (IsNarrowSum (stated_pairs c.args.split.now.model c.args.value c.args.master.now.den)) ∷ test (Wide 2 1) (IsNarrow (c.args.split.now.model.scale *ℤ c.args.master.now.den)) ∷ [] in
    judges_then front rest c.judge_stated.result (rw (to_z-of_z c.ranges.value) at c.in_ok-judge_sum_of_value.ensures) (rw (c.model.ensures.value, to_z-of_z fits, to_z-of_z c.ranges.value) at c.judge_stated.ensures)
