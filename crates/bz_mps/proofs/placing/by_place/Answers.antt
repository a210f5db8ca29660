use Rattle.bz_mps.proofs.PlacedItems.{items_step}
use Rattle.bz_mps.proofs.placing.by_place.Goals as goal

pub loop-item-preserved : goal.loop-item-preserved
loop-item-preserved g c =
    items_step g.T.Placed.place c.args.count c.args.items.now c.loop-item.item-index c.item-item.result _ _ c.loop-item-test.true c.item-item.is c.loop-item.invariant c.in_ok-add_item.ensures
