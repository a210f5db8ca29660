-- The rows so far have the program's columns.
use Rattle.std.specs.Prelude.{◌≡◌, length}
use Rattle.std.specs.List.{AllByRecursion}
use Rattle.bz_algebra.specs.Sums.{AllBelow}
use Rattle.bz_programs.proofs.degenerate.program.Given as goal

abbrev pub invariant-loop-i : goal.invariant-loop-i
invariant-loop-i g l = AllByRecursion (λ row. AllBelow (length l.case.cost.now) row.terms) l.rows.items × (length l.rows.items ≡ l.i)
