-- The rows so far speak of the three columns, and there are at most three beside those of the loop.
use Rattle.std.proofs.Common.{◌+◌, ◌≤◌, length}
use Rattle.std.specs.List.{AllByRecursion}
use Rattle.bz_algebra.specs.Sums.{AllBelow}
use Rattle.bz_split.proofs.tests.rows.Given as goal

abbrev pub invariant-loop : goal.invariant-loop
invariant-loop l = record {
  columns : AllByRecursion (λ row. AllBelow 3 row.terms) l.rows.items;
  count : length l.rows.items ≤ 3 + l.counter;
}
