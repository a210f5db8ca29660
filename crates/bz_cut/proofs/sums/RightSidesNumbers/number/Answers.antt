use Rattle.std.proofs.Common.{rules, get_or, FitsSigned, to_z-of_z}
use Rattle.std.specs.Int.{w128}
use Rattle.bz_model.specs.declared.Ineq.{Ineq}
use Rattle.bz_cut.proofs.Steps.{rhs_at-is}
use Rattle.bz_cut.proofs.sums.RightSidesNumbers.number.Goals as goal

pub returns : goal.returns
returns c =
    let row : Ineq = get_or c.args.self.now.rows.now c.args.place c.index-self-place.result in
    let fits : FitsSigned w128 row.rhs = search rules in
    rw (to_z-of_z fits) (rhs_at-is c.args.self.now.rows.now c.args.place c.index-self-place.result c.requires)
