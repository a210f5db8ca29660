use Rattle.std.proofs.Common.{rules, ◌≡◌, FitsSigned, to_z-of_z, pos, List, [], ◌∷◌}
use Rattle.std.specs.Int.{w128}
use Rattle.bz_algebra.specs.Sums.{dot}
use Rattle.bz_num.specs.Fold.{IsNarrowSum}
use Rattle.bz_model.specs.Points.{coordinate}
use Rattle.bz_first.specs.Tests.{Test, test}
use Rattle.bz_judge.specs.declared.faults.CheckFault.{CheckFault}
use Rattle.bz_model.specs.PointSums.{row_pairs}
use Rattle.bz_first.proofs.TestLemmas.{judges_then}
use Rattle.bz_judge.proofs.points.left_side.Goals as goal

pub returns-clause-judges : goal.returns-clause-judges
returns-clause-judges c =
    let front : List (Test CheckFault) = test c.args.wide (IsNarrowSum (row_pairs c.args.row.now.master c.args.master.now.x)) ∷ test c.args.wide (IsNarrowSum (row_pairs c.args.row.now.own c.args.block.now.y)) ∷ [] in
    let rest : List (Test CheckFault) = test c.args.wide (IsNarrowSum ((c.args.block.now.times, dot c.args.row.now.master (coordinate c.args.master.now.x)) ∷ (pos 1, dot c.args.row.now.own (coordinate c.args.block.now.y)) ∷ [])) ∷ [] in
    let first : c.in_ok-in_master.in_master ≡ dot c.args.row.now.master (coordinate c.args.master.now.x) = search rules in
    let second : c.in_ok-in_block.in_block ≡ dot c.args.row.now.own (coordinate c.args.block.now.y) = search rules in
    let fits : FitsSigned w128 c.in_ok-in_master.in_master = search rules in
    let fits_too : FitsSigned w128 c.in_ok-in_block.in_block = search rules in
    let fits_times : FitsSigned w128 c.args.block.now.times = search rules in
    judges_then front rest c.joined.result (search rules) (rw (← first, ← second) (rw (to_z-of_z fits, to_z-of_z fits_too, to_z-of_z fits_times) at c.joined.ensures.judges))
