-- What is counted, with what is still to come, is the whole.
use Rattle.std.proofs.Common.{◌≡◌, ◌+◌, ◌≤◌, drop, filter, length}
use Rattle.std.specs.List.{enumerate_from}
use Rattle.bz_model.proofs.sizes.count_integers.Given as goal

abbrev pub invariant-loop-column : goal.invariant-loop-column
invariant-loop-column l = record {
  whole : l.count + length (filter (λ e. e.1.integer) (enumerate_from l.column-index (drop l.column-index l.columns)))
      ≡ length (filter (λ e. e.1.integer) (enumerate_from 0 l.columns));
  most : l.count ≤ l.column-index;
}
