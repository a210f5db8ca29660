-- What is counted, with what is still to come, is the whole; each column gives two at most.
use Rattle.std.proofs.Common.{◌≡◌, ◌+◌, ◌*◌, ◌≤◌, drop}
use Rattle.std.specs.List.{enumerate_from}
use Rattle.bz_model.specs.Sizes.{column_size, sum_of}
use Rattle.bz_model.proofs.sizes.sides_of_columns.Given as goal

abbrev pub invariant-loop-j : goal.invariant-loop-j
invariant-loop-j l = record {
  whole : l.count + sum_of (column_size l.part l.b) (enumerate_from l.j (drop l.j l.columns)) ≡ sum_of (column_size l.part l.b) (enumerate_from 0 l.columns);
  most : l.count ≤ 2 * l.j;
}
