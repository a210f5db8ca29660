use Rattle.std.proofs.Common.{rules, refl, ◌∙◌, ap, List, ℤ, FitsSigned, to_z-of_z}
use Rattle.std.specs.Int.{w128}
use Rattle.bz_num.specs.Dense.{entry}
use Rattle.bz_std.specs.Meanings.{differences}
use Rattle.bz_node.specs.NodePrograms.{cuts_of, mode_of, model_of, part_of, region_of}
use Rattle.bz_node.specs.PointSteps.{IsPointOf}
use Rattle.bz_node.proofs.PointSteps.{point_is, point_same, rows_hold}
use Rattle.bz_node.proofs.points.point_answer.Goals as goal

pub wide_sum-requires-clause-holds : goal.wide_sum-requires-clause-holds
wide_sum-requires-clause-holds c =
    let n = c.args.program.now in
    let v = differences (entry c.args.z.now.num) in
    let fits : FitsSigned w128 c.args.z.now.den = search rules in
    let made : IsPointOf (part_of n) c.args.z.now.den (entry c.into_vec.result.items) c.in_ok-point.point = rw (to_z-of_z fits) at c.in_ok-point.ensures in
    let here : IsPointOf (part_of n) c.args.z.now.den v c.in_ok-point.point = point_same (part_of n) c.args.z.now.den _ v c.in_ok-point.point
    (λ j l. ap (λ (xs : List ℤ). entry xs j) c.into_vec.ensures ∙ c.requires.numbers.numbers j l) made in
    rows_hold (model_of n) (part_of n) c.requires.program.decomposed v c.args.z.now.den c.in_ok-point.point here (region_of n) (cuts_of n) c.requires.program.of_split (mode_of n) c.requires.point.meets

pub returns-in-None-clause-answer : goal.returns-in-None-clause-answer
returns-in-None-clause-answer c =
    let n = c.args.program.now in
    let v = differences (entry c.args.z.now.num) in
    let fits : FitsSigned w128 c.args.z.now.den = search rules in
    let made : IsPointOf (part_of n) c.args.z.now.den (entry c.into_vec.result.items) c.in_ok-point.point = rw (to_z-of_z fits) at c.in_ok-point.ensures in
    let here : IsPointOf (part_of n) c.args.z.now.den v c.in_ok-point.point = point_same (part_of n) c.args.z.now.den _ v c.in_ok-point.point
    (λ j l. ap (λ (xs : List ℤ). entry xs j) c.into_vec.ensures ∙ c.requires.numbers.numbers j l) made in
    point_is (model_of n) (part_of n) c.requires.program.decomposed v c.args.z.now.den c.in_ok-point.point here (region_of n) (cuts_of n) c.requires.program.of_split (mode_of n)
    c.args.leaf c.args.z.now.den_positive c.requires.point.meets c.requires.point.whole c.requires.point.leaf_is c.in-None.ensures

pub returns-in-Some-clause-stop : goal.returns-in-Some-clause-stop
returns-in-Some-clause-stop c =
    let n = c.args.program.now in
    let v = differences (entry c.args.z.now.num) in
    let fits : FitsSigned w128 c.args.z.now.den = search rules in
    let made : IsPointOf (part_of n) c.args.z.now.den (entry c.into_vec.result.items) c.in_ok-point.point = rw (to_z-of_z fits) at c.in_ok-point.ensures in
    let here : IsPointOf (part_of n) c.args.z.now.den v c.in_ok-point.point = point_same (part_of n) c.args.z.now.den _ v c.in_ok-point.point
    (λ j l. ap (λ (xs : List ℤ). entry xs j) c.into_vec.ensures ∙ c.requires.numbers.numbers j l) made in
    rw c.wide_sum_stop.ensures (
      refl,
      refl,
      refl,
      record {
        whole = c.requires.point.whole;
        point = c.in_ok-point.point;
        shape = here.shape;
        lowest = here.lowest;
        wide = c.in-Some.ensures;
      },
    )
