use Rattle.std.specs.Prelude.{ℕ, ◌<◌, pos, ◌≤ℤ◌}
use Rattle.bz_tableau.specs.Tables.{shown}
use Rattle.bz_lex.proofs.signs.is_free.Given as goal

abbrev pub invariant-loop-i : goal.invariant-loop-i
invariant-loop-i l = (k : ℕ) → k < l.i → (shown l.tableau k l.column) ≤ℤ (pos 0)
