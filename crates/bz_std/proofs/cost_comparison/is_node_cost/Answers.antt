use Rattle.std.proofs.Common.{rules, ◌≡◌, ◌↔◌, ◌+◌, ◌*◌, IsTrue}
use Rattle.bz_algebra.specs.Sums.{AllBelow}
use Rattle.bz_num.specs.Row.{IsSparse}
use Rattle.bz_model.specs.Parting.{blocks_of, width_of}
use Rattle.bz_model.proofs.InnerCosts.{decomposed}
use Rattle.bz_cut.specs.declared.Mode.TheVariants as mode
use Rattle.bz_std.specs.Tasks.{node_cost}
use Rattle.bz_std.proofs.CostsCompared.{cost_below, has_cost, node_cost_is}
use Rattle.bz_std.proofs.PosedTasks.{node_cost_below}
use Rattle.bz_std.proofs.Tested.{told, told_not}
use Rattle.bz_std.proofs.cost_comparison.is_node_cost.Goals as goal

pub returns-then-all_below : goal.returns-then-all_below
returns-then-all_below c =
    let split = c.args.split.now in
    let row = c.args.row.now in
    let n = width_of split.part 0 + blocks_of split.part in
    let sparse : IsSparse split.model.cost = rw c.model.ensures.value at c.rises-2.ensures in
    let below : AllBelow (2 * n) row = rw (c.width.ensures, c.blocks-in-Cost.ensures.value) at (c.all_below.ensures.0 c.if-all_below.true) in
    rw c.in-Cost.is (told c.has_node_costs.ensures
    (node_cost_is split c.model.ensures.split sparse row c.rises.ensures below)
    (has_cost n row (node_cost split.model split.part mode.Cost)))

pub returns-else-all_below : goal.returns-else-all_below
returns-else-all_below c =
    let split = c.args.split.now in
    let n = width_of split.part 0 + blocks_of split.part in
    rw c.in-Cost.is (told_not c.all_below.ensures c.if-all_below.false (λ e. rw (c.width.ensures, c.blocks-in-Cost.ensures.value)
    (cost_below n c.args.row.now (node_cost split.model split.part mode.Cost) (node_cost_below split.model split.part (decomposed split c.model.ensures.split) mode.Cost) e)))
