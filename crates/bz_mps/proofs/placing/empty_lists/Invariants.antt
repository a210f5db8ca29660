use Rattle.std.proofs.Common.{map, []}
use Rattle.bz_mps.specs.ByPlace.{AreByPlace}
use Rattle.bz_mps.proofs.placing.empty_lists.Given as goal

abbrev pub invariant-loop-place : goal.invariant-loop-place
invariant-loop-place g l = AreByPlace g.T.Placed.place l._place [] (map (λ v. v.items) l.lists.items)
