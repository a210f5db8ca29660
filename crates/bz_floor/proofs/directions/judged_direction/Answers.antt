use Rattle.std.proofs.Common.{◌≡◌, ap, ◌∙◌, length}
use Rattle.bz_num.specs.Dense.{entry}
use Rattle.bz_first.specs.Tests.{AllHold, IsFirstFault}
use Rattle.bz_judge.specs.RayTests.{ray_tests}
use Rattle.bz_std.specs.Meanings.{differences}
use Rattle.bz_event.specs.Floors.{placed}
use Rattle.bz_floor.proofs.FloorAnswers.{directs_passed, is_floor_ray, is_wide_ray}
use Rattle.bz_event.proofs.PlacedRays.{length-placed}
use Rattle.bz_floor.proofs.Primitives.{falls_move}
use Rattle.bz_floor.proofs.directions.judged_direction.Goals as goal

pub direction-requires-clause-moves : goal.direction-requires-clause-moves
direction-requires-clause-moves c = falls_move c.args.split.now.model c.args.split.now.part c.requires.split c.args.block (differences (entry c.args.d.now)) c.requires.falls

pub judge_ray-requires : goal.judge_ray-requires
judge_ray-requires c =
    let ray : c.as_slice-2.result.now ≡ placed c.args.split.now.part c.args.block c.in_ok-direction.direction = c.as_slice-2.ensures.value ∙ (rw c.as_slice.ensures at c.in_ok-ray.ensures) in
    ap length ray ∙ length-placed c.args.split.now.part c.args.block c.in_ok-direction.direction ∙ c.requires.split.partition.numbers

pub returns-in_err-judge_ray : goal.returns-in_err-judge_ray
returns-in_err-judge_ray c =
    let m = c.args.split.now.model in
    let part = c.args.split.now.part in
    let d = c.in_ok-direction.direction in
    let f = differences (entry c.args.d.now) in
    let g = c.in_err-judge_ray.field-0.0 in
    let ray : c.as_slice-2.result.now ≡ placed part c.args.block d = c.as_slice-2.ensures.value ∙ (rw c.as_slice.ensures at c.in_ok-ray.ensures) in
    let fault : IsFirstFault (ray_tests m (placed part c.args.block d)) g = rw ray at c.in_err-judge_ray.ensures in
    directs_passed m part c.args.block f g c.from_residual-in_err-judge_ray.result c.from_residual-in_err-judge_ray.ensures.1
    (is_wide_ray m part c.requires.split c.args.block c.requires.first c.requires.last f c.requires.falls d c.in_ok-direction.ensures.primitive g fault)

pub returns : goal.returns
returns c =
    let m = c.args.split.now.model in
    let part = c.args.split.now.part in
    let d = c.in_ok-direction.direction in
    let f = differences (entry c.args.d.now) in
    let ray : c.as_slice-2.result.now ≡ placed part c.args.block d = c.as_slice-2.ensures.value ∙ (rw c.as_slice.ensures at c.in_ok-ray.ensures) in
    let hold : AllHold (ray_tests m (placed part c.args.block d)) = rw ray at c.in_ok-judge_ray.ensures in
    is_floor_ray m part c.requires.split c.args.block c.requires.first c.requires.last f c.requires.falls d c.in_ok-direction.ensures.primitive c.in_ok-direction.ensures.narrow hold
