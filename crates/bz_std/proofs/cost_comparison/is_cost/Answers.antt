use Rattle.std.proofs.Common.{rules, ◌≡◌, ◌↔◌, ◌*◌, IsTrue}
use Rattle.bz_algebra.specs.Sums.{AllBelow}
use Rattle.bz_num.specs.Row.{IsSparse}
use Rattle.bz_model.specs.Parting.{inner_cost, terms_in, width_of}
use Rattle.bz_model.proofs.InnerCosts.{cost_terms_within, decomposed}
use Rattle.bz_std.proofs.CostsCompared.{cost_below, cost_is, has_cost, part_cost_sparse}
use Rattle.bz_std.proofs.Tested.{told, told_not}
use Rattle.bz_std.proofs.cost_comparison.is_cost.Goals as goal

pub returns-then-all_below : goal.returns-then-all_below
returns-then-all_below c =
    let split = c.args.split.now in
    let row = c.args.row.now in
    let n = width_of split.part c.args.part in
    let cost = terms_in split.part c.args.part (inner_cost split.model) in
    let sparse : IsSparse split.model.cost = rw c.model.ensures.value at c.rises-2.ensures in
    let below : AllBelow (2 * n) row = rw c.width.ensures at (c.all_below.ensures.0 c.if-all_below.true) in
    told c.has_costs.ensures
    (cost_is n row cost c.rises.ensures (part_cost_sparse split c.args.part c.model.ensures.split sparse) below (cost_terms_within split.model split.part c.args.part (decomposed split c.model.ensures.split)))
    (has_cost n row cost)

pub returns-else-all_below : goal.returns-else-all_below
returns-else-all_below c =
    let split = c.args.split.now in
    let cost = terms_in split.part c.args.part (inner_cost split.model) in
    told_not c.all_below.ensures c.if-all_below.false (λ e. rw c.width.ensures
    (cost_below (width_of split.part c.args.part) c.args.row.now cost (cost_terms_within split.model split.part c.args.part (decomposed split c.model.ensures.split)) e))
