use Rattle.std.specs.Prelude.{ℕ, ◌<◌, pos, ◌≤ℤ◌, length}
use Rattle.bz_tableau.specs.Tables.{shown}
use Rattle.bz_lex.proofs.signs.has_least_cost.Given as goal

abbrev pub invariant-loop-j : goal.invariant-loop-j
invariant-loop-j l = (k : ℕ) → k < l.j → (pos 0) ≤ℤ (shown l.tableau (length l.tableau.basis) k)
