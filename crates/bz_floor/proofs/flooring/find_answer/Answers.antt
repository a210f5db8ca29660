use Rattle.std.proofs.Common.{rules, false, FitsSigned, to_z-of_z}
use Rattle.std.specs.Int.{w128}
use Rattle.bz_num.specs.Dense.{entry}
use Rattle.bz_tableau.specs.Answers.{IsEmpty, IsLeast, IsRay}
use Rattle.bz_tableau.specs.Programs.{program_of}
use Rattle.bz_std.specs.Tasks.{floor}
use Rattle.bz_std.proofs.Crossing.{empty_crosses}
use Rattle.bz_std.proofs.FloorEnds.{floor_never_empty}
use Rattle.bz_std.proofs.PosedTasks.{floor_posed}
use Rattle.bz_floor.proofs.FloorAnswers.{balances, cut_answers, ray_answers, ray_falls}
use Rattle.bz_floor.proofs.flooring.find_answer.Goals as goal

pub fitting_cut-made-requires-clause-balanced : goal.fitting_cut-made-requires-clause-balanced
fitting_cut-made-requires-clause-balanced c =
    let m = c.args.split.now.model in
    let part = c.args.split.now.part in
    let lp = c.args.lp.now in
    let l : IsLeast false (program_of lp) c.in-Least.basis c.in-Least.z c.in-Least.y = rw c.in-Least.is at c.in_ok-basis.ensures.answers in
    let fits : FitsSigned w128 c.in-Least.y.den = search rules in
    rw (c.as_slice.ensures, to_z-of_z fits) (balances m part c.decomposed.ensures c.args.block lp c.requires.program c.in-Least.basis c.in-Least.z c.in-Least.y l)

pub returns-in-Least : goal.returns-in-Least
returns-in-Least c =
    let m = c.args.split.now.model in
    let part = c.args.split.now.part in
    let lp = c.args.lp.now in
    let l : IsLeast false (program_of lp) c.in-Least.basis c.in-Least.z c.in-Least.y = rw c.in-Least.is at c.in_ok-basis.ensures.answers in
    let fits : FitsSigned w128 c.in-Least.y.den = search rules in
    rw c.cut_answer.ensures (cut_answers m part c.decomposed.ensures c.args.block lp c.requires.program c.in-Least.basis c.in-Least.z c.in-Least.y l c.fitting_cut-made.result
    (rw (c.as_slice.ensures, to_z-of_z fits) at c.fitting_cut-made.ensures.cut)
    (rw (c.as_slice.ensures, to_z-of_z fits) at c.fitting_cut-made.ensures.stop))

pub judged_direction-made-requires-clause-falls : goal.judged_direction-made-requires-clause-falls
judged_direction-made-requires-clause-falls c =
    let m = c.args.split.now.model in
    let part = c.args.split.now.part in
    let lp = c.args.lp.now in
    let r : IsRay (program_of lp) c.in-Ray.basis c.in-Ray.column c.in-Ray.z c.in-Ray.d = (rw c.in-Ray.is at c.in_ok-basis.ensures.answers).1 in
    rw c.as_slice-in-Ray.ensures (ray_falls m part c.decomposed.ensures c.args.block lp c.requires.program c.in-Ray.basis c.in-Ray.column c.in-Ray.z c.in-Ray.d r)

pub returns-in-Ray : goal.returns-in-Ray
returns-in-Ray c =
    let m = c.args.split.now.model in
    let part = c.args.split.now.part in
    let lp = c.args.lp.now in
    let r : IsRay (program_of lp) c.in-Ray.basis c.in-Ray.column c.in-Ray.z c.in-Ray.d = (rw c.in-Ray.is at c.in_ok-basis.ensures.answers).1 in
    rw c.ray_answer.ensures (ray_answers m part c.decomposed.ensures c.args.block lp c.requires.program c.in-Ray.basis c.in-Ray.column c.in-Ray.z c.in-Ray.d r c.judged_direction-made.result (rw c.as_slice-in-Ray.ensures at c.judged_direction-made.ensures))

pub unreachable-requires : goal.unreachable-requires
unreachable-requires c =
    let m = c.args.split.now.model in
    let part = c.args.split.now.part in
    let lp = c.args.lp.now in
    let e : IsEmpty (program_of lp) c.in-Empty.basis c.in-Empty.y = (rw c.in-Empty.is at c.in_ok-basis.ensures.answers).1 in
    floor_never_empty m part c.args.block (entry c.in-Empty.y)
    (empty_crosses (floor m part c.args.block) lp c.requires.program (floor_posed m part c.decomposed.ensures c.args.block) c.in-Empty.basis c.in-Empty.y e)
