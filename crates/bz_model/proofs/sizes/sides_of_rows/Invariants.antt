-- What is counted, with what is still to come, is the whole; each row gives two at most.
use Rattle.std.proofs.Common.{◌≡◌, ◌+◌, ◌*◌, ◌≤◌, drop}
use Rattle.bz_model.specs.Sizes.{row_size, sum_of}
use Rattle.bz_model.proofs.sizes.sides_of_rows.Given as goal

abbrev pub invariant-loop-row : goal.invariant-loop-row
invariant-loop-row l = record {
  whole : l.count + sum_of (row_size l.part l.b) (drop l.row-index l.rows) ≡ sum_of (row_size l.part l.b) l.rows;
  most : l.count ≤ 2 * l.row-index;
}
