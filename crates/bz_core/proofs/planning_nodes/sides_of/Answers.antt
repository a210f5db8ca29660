use Rattle.std.proofs.Common.{rules, FitsSigned, to_z-of_z}
use Rattle.std.specs.Int.{w128}
use Rattle.bz_tree.specs.Ends.{box_of as box_held}
use Rattle.bz_tree.specs.Integers.{integer_at}
use Rattle.bz_core.proofs.SplitSides.{at_least_held, below_held, left_side, right_side}
use Rattle.bz_core.proofs.planning_nodes.sides_of.Goals as goal

pub split_box-requires-clause-at_least : goal.split_box-requires-clause-at_least
split_box-requires-clause-at_least c =
    let fits : FitsSigned w128 c.args.value = search rules in
    rw (to_z-of_z fits)
    (at_least_held c.args.region.now (box_held c.in_ok-own.own) (integer_at c.args.split.now.model c.args.split.now.part c.args.position) c.in_ok-place.place c.args.value c.in_ok-place.ensures c.in_ok-own.ensures c.requires.splits.at_least)

pub split_box-requires-clause-below : goal.split_box-requires-clause-below
split_box-requires-clause-below c =
    let fits : FitsSigned w128 c.args.value = search rules in
    rw (to_z-of_z fits)
    (below_held c.args.region.now (box_held c.in_ok-own.own) (integer_at c.args.split.now.model c.args.split.now.part c.args.position) c.in_ok-place.place c.args.value c.in_ok-place.ensures c.in_ok-own.ensures c.requires.splits.below)

pub returns-clause-left : goal.returns-clause-left
returns-clause-left c =
    let fits : FitsSigned w128 c.args.value = search rules in
    let is = c.in_ok-left.ensures.at_most in
    left_side c.args.region.now c.region_of.result (box_held c.in_ok-left.left) (box_held c.in_ok-own.own) (integer_at c.args.split.now.model c.args.split.now.part c.args.position) c.in_ok-place.place c.args.value
    c.in_ok-place.ensures c.region_of.ensures (rw (to_z-of_z fits) at is) c.in_ok-own.ensures

pub returns-clause-right : goal.returns-clause-right
returns-clause-right c =
    let fits : FitsSigned w128 c.args.value = search rules in
    let is = c.in_ok-left.ensures.above in
    right_side c.args.region.now c.region_of-2.result (box_held c.in_ok-left.right) (box_held c.in_ok-own.own) (integer_at c.args.split.now.model c.args.split.now.part c.args.position) c.in_ok-place.place c.args.value
    c.in_ok-place.ensures c.region_of-2.ensures (rw (to_z-of_z fits) at is) c.in_ok-own.ensures
