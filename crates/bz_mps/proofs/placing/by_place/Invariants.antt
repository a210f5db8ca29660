use Rattle.std.proofs.Common.{map, take}
use Rattle.bz_mps.specs.ByPlace.{AreByPlace}
use Rattle.bz_mps.proofs.placing.by_place.Given as goal

abbrev pub invariant-loop-item : goal.invariant-loop-item
invariant-loop-item g l = AreByPlace g.T.Placed.place l.count (take l.item-index l.items) (map (λ v. v.items) l.lists.items)
