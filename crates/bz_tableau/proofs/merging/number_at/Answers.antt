-- At its place the column's number stands, elsewhere nothing.
use Rattle.std.proofs.Common.{◌≡◌, rules, sym, ◌<◌, pos, length, get_or, FitsSigned, to_z-of_z, arith}
use Rattle.std.specs.Int.{w128}
use Rattle.bz_tableau.specs.Sparse.{column_of}
use Rattle.bz_tableau.proofs.SparseRows.{number_there, number_none}
use Rattle.bz_tableau.proofs.merging.number_at.Goals as goal
use Rattle.bz_tableau.proofs.merging.number_at.Goals.{else-i-row-via-then-i-row+else-row-i, else-i-row-via-else-i-row}

pub returns-then-row-i : goal.returns-then-row-i
returns-then-row-i c =
    let fits : FitsSigned w128 (get_or c.args.row.now c.args.i (0, pos 0)).1 = search rules in
    rw (to_z-of_z fits) (sym (number_there c.args.row.now c.args.i c.args.column c.requires.sparse c.if-i-row.true c.if-row-i.true))

pub returns-else-i-row : goal.returns-else-i-row
returns-else-i-row c = sym (number_none c.args.row.now c.args.i c.args.column c.requires.sparse c.requires.place absent)
  where
    absent : c.args.i < length c.args.row.now → column_of c.args.row.now c.args.i ≡ c.args.column → ⊥
    absent l e = elim c.else-i-row.branch [
      | else-i-row-via-then-i-row+else-row-i w ↦ w.if-row-i.false e
      | else-i-row-via-else-i-row w ↦ let off = w.if-i-row.false in omega arith
    ]
