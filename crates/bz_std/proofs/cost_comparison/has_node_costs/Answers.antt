use Rattle.std.proofs.Common.{rules, ◌≡◌, ◌↔◌, IsTrue}
use Rattle.bz_model.specs.Parting.{blocks_of, width_of}
use Rattle.bz_std.specs.Compared.{HasOnes}
use Rattle.bz_std.proofs.CostsCompared.{numbers_first, numbers_joined, numbers_second}
use Rattle.bz_std.proofs.Tested.{told, told_not}
use Rattle.bz_std.proofs.cost_comparison.has_node_costs.Goals as goal

pub returns-then-has_costs : goal.returns-then-has_costs
returns-then-has_costs c =
    let split = c.args.split.now in
    let row = c.args.row.now in
    let etas : IsTrue c.has_etas.result ↔ HasOnes row (width_of split.part 0) (blocks_of split.part) = rw (c.width-width.ensures, c.blocks-blocks.ensures.value) at c.has_etas.ensures in
    told etas
    (λ ones. numbers_joined split c.blocks-blocks.ensures.split row (c.has_costs.ensures.0 c.if-has_costs.true) ones)
    (λ n. numbers_second split c.blocks-blocks.ensures.split row n)

pub returns-else-has_costs : goal.returns-else-has_costs
returns-else-has_costs c = told_not c.has_costs.ensures c.if-has_costs.false (λ n. numbers_first c.args.split.now c.blocks-blocks.ensures.split c.args.row.now n)
