use Rattle.std.specs.Prelude.{ℕ, ◌<◌, pos, ◌≤ℤ◌}
use Rattle.bz_tableau.specs.Tables.{shown, factor_column}
use Rattle.bz_lex.proofs.signs.has_point.Given as goal

abbrev pub invariant-loop-i : goal.invariant-loop-i
invariant-loop-i l = (k : ℕ) → k < l.i → (pos 0) ≤ℤ (shown l.tableau k (factor_column l.tableau))
