use Rattle.bz_node.proofs.SumTests.{fault_is_wide, none_is_wide, wide_fails}
use Rattle.bz_node.proofs.sums.wide_sum.Goals as goal

pub wide_place-requires : goal.wide_place-requires
wide_place-requires c = fault_is_wide c.args.split.now.model c.args.split.now.part c.args.point.now c.args.mode c.in-Err.fault c.requires.holds c.in-Err.ensures

pub returns-in-Ok : goal.returns-in-Ok
returns-in-Ok c = none_is_wide c.args.split.now.model c.args.split.now.part c.args.point.now c.args.mode c.in-Ok.ensures

pub returns-in-Err : goal.returns-in-Err
returns-in-Err c = wide_fails c.args.split.now.model c.args.split.now.part c.args.point.now c.args.mode c.in-Err.fault c.wide_place.result.0 c.wide_place.result.1 c.wide_place.ensures c.in-Err.ensures
