use Rattle.std.proofs.Common.{rules, FitsSigned, to_z-of_z}
use Rattle.std.specs.Int.{w128}
use Rattle.bz_model.specs.Points.{coordinate}
use Rattle.bz_judge.proofs.integers.IntegersItemTestsU32CheckFault.judge.Goals as goal

pub returns : goal.returns
returns c =
    let fits_x : FitsSigned w128 (coordinate c.args.self.now.master.now.x c.args.position.now) = search rules in
    let fits_den : FitsSigned w128 c.args.self.now.master.now.den = search rules in
    let fits_lower : FitsSigned w128 (coordinate c.args.self.now.root.now.lower c.args.k) = search rules in
    let fits_upper : FitsSigned w128 (coordinate c.args.self.now.root.now.upper c.args.k) = search rules in
    rw (c.as_slice.ensures, c.as_slice-2.ensures, c.as_slice-3.ensures, to_z-of_z fits_x, to_z-of_z fits_lower, to_z-of_z fits_upper, to_z-of_z fits_den) at c.judge_between.ensures
