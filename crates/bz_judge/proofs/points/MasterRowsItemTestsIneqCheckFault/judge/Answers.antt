use Rattle.std.proofs.Common.{rules, ◌≡◌, FitsSigned, to_z-of_z}
use Rattle.std.specs.Int.{w128}
use Rattle.bz_num.specs.Fold.{fold_of, pairs_at}
use Rattle.bz_model.specs.Points.{coordinate}
use Rattle.bz_judge.proofs.points.MasterRowsItemTestsIneqCheckFault.judge.Goals as goal

pub returns : goal.returns
returns c =
    let sum : c.row_sum-sum.result ≡ fold_of (pairs_at c.args.row.now.own (coordinate c.args.self.now.master.now.x)) = search rules in
    let fits : FitsSigned w128 c.args.row.now.rhs = search rules in
    let fits_too : FitsSigned w128 c.args.self.now.master.now.den = search rules in
    rw (to_z-of_z fits, to_z-of_z fits_too, c.wide_in-wide.ensures) at (c.judge_at_most.ensures c.args.row.now.own (coordinate c.args.self.now.master.now.x) sum)
