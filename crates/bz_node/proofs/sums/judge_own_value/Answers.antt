use Rattle.std.proofs.Common.{rules, ◌≡◌, ℕ, ℤ, List, FitsSigned, to_z-of_z}
use Rattle.std.specs.Int.{w128}
use Rattle.bz_model.specs.Parting.{inner_cost, terms_in}
use Rattle.bz_judge.proofs.FoundSums.{value_found}
use Rattle.bz_event.specs.Nodes.{value_of}
use Rattle.bz_node.proofs.sums.judge_own_value.Goals as goal

pub returns : goal.returns
returns c =
    let split = c.args.split.now in
    let cost : List (ℕ × ℤ) = terms_in split.part 0 (inner_cost split.model) in
    let found : c.in_ok-value.value ≡ value_of split.model split.part c.args.point.now = value_found cost c.args.point.now c.value_sum.result c.in_ok-value.value c.value_sum.ensures c.in_ok-value.ensures.sum in
    let fits : FitsSigned w128 c.in_ok-value.value = search rules in
    rw (to_z-of_z fits, found) at c.judge_value.ensures
