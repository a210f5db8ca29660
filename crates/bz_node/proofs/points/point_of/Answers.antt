use Rattle.std.proofs.Common.{rules, ◌≡◌, ◌∙◌, ◌+◌, ◌++◌, pos, ◌<ℤ◌, FitsSigned, to_z, of_z, to_z-of_z}
use Rattle.std.specs.Int.{w128}
use Rattle.bz_num.specs.Dense.{entry}
use Rattle.bz_model.specs.Parting.{blocks_of, width_of}
use Rattle.bz_std.specs.LowestForms.{IsLowestOf}
use Rattle.bz_node.proofs.PointSteps.{narrow_back, narrow_front, parts_are}
use Rattle.bz_node.proofs.points.point_of.Goals as goal

pub invariant_of-result : goal.invariant_of-result
invariant_of-result c =
    let fits : FitsSigned w128 c.lowest-low.result.0 = search rules in
    let whole : c.in_ok-x.x ++ c.in_ok-x.eta ≡ c.lowest-low.result.1 = c.in_ok-x.ensures.whole ∙ c.as_slice.ensures in
    record {
      den_narrow = rw (to_z-of_z fits) c.lowest-low.ensures.den_narrow;
      x_narrow = narrow_front c.in_ok-x.x c.in_ok-x.eta c.lowest-low.result.1 whole c.lowest-low.ensures.narrow;
      eta_narrow = narrow_back c.in_ok-x.x c.in_ok-x.eta c.lowest-low.result.1 whole c.lowest-low.ensures.narrow;
    }

pub returns : goal.returns
returns c =
    let part = c.args.split.now.part in
    let fits : FitsSigned w128 c.lowest-low.result.0 = search rules in
    let whole : c.in_ok-x.x ++ c.in_ok-x.eta ≡ c.lowest-low.result.1 = c.in_ok-x.ensures.whole ∙ c.as_slice.ensures in
    let positive : (pos 0) <ℤ to_z w128 (of_z w128 c.lowest-low.result.0) = rw (to_z-of_z fits) c.lowest-low.ensures.positive in
    let low : IsLowestOf (width_of part 0 + blocks_of part) c.args.den (entry c.args.numbers.items) c.lowest-low.result.0 c.lowest-low.result.1 = rw (c.requires.count, to_z-of_z c.ranges.den) at c.lowest-low.ensures.lowest in
    let parts : IsLowestOf (width_of part 0 + blocks_of part) c.args.den (entry c.args.numbers.items) (to_z w128 (of_z w128 c.lowest-low.result.0)) (c.in_ok-x.x ++ c.in_ok-x.eta) = rw (to_z-of_z fits, whole) low in
    parts_are part c.args.den (entry c.args.numbers.items) _ positive (c.in_ok-x.ensures.width ∙ c.width.ensures) parts
