use Rattle.std.specs.Prelude.{ℕ, ◌<◌, ◌≡◌, ◌+◌, length}
use Rattle.bz_tableau.specs.Dense.{entry}
use Rattle.bz_tableau.specs.Tables.{shown}
use Rattle.bz_lex.proofs.values.multipliers.Given as goal

abbrev pub invariant-loop-column : goal.invariant-loop-column
invariant-loop-column l = (l.tableau.slack + length l.y.items ≡ l.column) × ((k : ℕ) → k < length l.y.items → entry l.y.items k ≡ shown l.tableau (length l.tableau.basis) (l.tableau.slack + k))
