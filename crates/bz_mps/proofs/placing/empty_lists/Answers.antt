use Rattle.std.proofs.Common.{arith, ◌≡◌, ℕ, [], map, subst}
use Rattle.bz_mps.specs.ByPlace.{AreByPlace}
use Rattle.bz_mps.proofs.PlacedItems.{none_yet, one_more}
use Rattle.bz_mps.proofs.placing.empty_lists.Goals as goal

pub loop-place-init : goal.loop-place-init
loop-place-init g c = none_yet g.T.Placed.place (λ v. v.items) c.in_ok-lists.lists.items c.in_ok-lists.ensures.items

pub loop-place-preserved : goal.loop-place-preserved
loop-place-preserved g c = one_more g.T.Placed.place (λ v. v.items) c.loop-place._place c.loop-place.lists.items _ c.new.result c.loop-place.invariant c.in_ok-push.ensures.items c.new.ensures.items

pub returns : goal.returns
returns g c =
    let all : c.loop-place._place ≡ c.args.count = omega arith in
    subst (λ (n : ℕ). AreByPlace g.T.Placed.place n [] (map (λ v. v.items) c.loop-place.lists.items)) all c.loop-place.invariant
