-- What is made, with what is still to come, is the whole; and the first wide right side is still to come.
use Rattle.std.proofs.Common.{◌≡◌, ℕ, ◌+◌, ◌++◌, drop, map}
use Rattle.std.specs.List.{AllByRecursion}
use Rattle.bz_algebra.specs.Sums.{AllBelow}
use Rattle.bz_num.specs.Fold.{IsNarrowSum}
use Rattle.bz_std.specs.Posed.{line_of, line_over_columns}
use Rattle.bz_std.specs.Tasks.{own_line, right_pairs}
use Rattle.bz_std.proofs.Building.{Finds}
use Rattle.bz_std.proofs.separation.own_rows.Given as goal

abbrev pub invariant-loop-number : goal.invariant-loop-number
invariant-loop-number l = record {
  rows :
      map line_of l.rows.items ++ map line_over_columns (map (own_line l.point) (drop l.number l.ineqs))
      ≡ map line_over_columns (map (own_line l.point) l.ineqs);
  narrow : AllByRecursion (λ i. IsNarrowSum (right_pairs l.point i)) (drop l.number l.ineqs)
      → AllByRecursion (λ i. IsNarrowSum (right_pairs l.point i)) l.ineqs;
  wide : (k : ℕ) → Finds l.point (drop l.number l.ineqs) k → Finds l.point l.ineqs (l.number + k);
}
