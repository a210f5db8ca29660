use Rattle.std.proofs.Common.{rules, get_or, FitsSigned, to_z-of_z}
use Rattle.std.specs.Int.{w128}
use Rattle.bz_tableau.specs.declared.programs.LpRow.{LpRow}
use Rattle.bz_std.proofs.LeafNumbers.{right_at_is}
use Rattle.bz_std.proofs.leaves.RightSidesNumbers.number.Goals as goal

pub returns : goal.returns
returns c =
    let row : LpRow = get_or c.args.self.now.rows.now c.args.place c.index-self-place.result in
    let fits : FitsSigned w128 row.rhs = search rules in
    rw (to_z-of_z fits) (right_at_is c.args.self.now.rows.now c.args.place c.index-self-place.result c.requires)
