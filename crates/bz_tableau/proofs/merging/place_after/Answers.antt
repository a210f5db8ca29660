-- Where the pair stands in the column it is passed.
use Rattle.std.proofs.Common.{◌≡◌, ◌<◌, length, arith}
use Rattle.bz_tableau.specs.Sparse.{column_of}
use Rattle.bz_tableau.proofs.SparseRows.{place_kept, place_passed}
use Rattle.bz_tableau.proofs.merging.place_after.Goals as goal
use Rattle.bz_tableau.proofs.merging.place_after.Goals.{else-i-row-via-then-i-row+else-row-i, else-i-row-via-else-i-row}

pub returns-then-row-i-clause-place : goal.returns-then-row-i-clause-place
returns-then-row-i-clause-place c = place_passed c.args.row.now c.args.i c.args.column c.requires.sparse c.requires.place c.if-i-row.true c.if-row-i.true

pub returns-else-i-row-clause-place : goal.returns-else-i-row-clause-place
returns-else-i-row-clause-place c = place_kept c.args.row.now c.args.i c.args.column c.requires.sparse c.requires.place absent
  where
    absent : c.args.i < length c.args.row.now → column_of c.args.row.now c.args.i ≡ c.args.column → ⊥
    absent l e = elim c.else-i-row.branch [
      | else-i-row-via-then-i-row+else-row-i w ↦ w.if-row-i.false e
      | else-i-row-via-else-i-row w ↦ let off = w.if-i-row.false in omega arith
    ]
