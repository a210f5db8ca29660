use Rattle.std.proofs.Common.{◌≡◌, rules, FitsSigned, to_z-of_z, subst, List, get_or}
use Rattle.std.specs.Int.{w128}
use Rattle.bz_tableau.specs.declared.programs.LpRow.{LpRow}
use Rattle.bz_tableau.proofs.FirstRows.{rhs_at}
use Rattle.bz_tableau.proofs.first.row_right.Goals as goal

pub returns-clause-value : goal.returns-clause-value
returns-clause-value c =
    let row : LpRow = c.index-as_slice-i.result in
    let fits : FitsSigned w128 row.rhs = search rules in
    let is : row ≡ get_or c.args.lp.now.rows c.args.i row = subst (λ (rows : List LpRow). row ≡ get_or rows c.args.i row) c.as_slice.ensures c.index-as_slice-i.is in
    rw (to_z-of_z fits) (rhs_at c.args.lp.now.rows c.args.i row is c.requires)
