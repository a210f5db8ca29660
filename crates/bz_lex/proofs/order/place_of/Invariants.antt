use Rattle.std.specs.Prelude.{ℕ, ◌<◌, ◌≢◌}
use Rattle.bz_tableau.specs.Laws.{place}
use Rattle.bz_lex.proofs.order.place_of.Given as goal

abbrev pub invariant-loop-i : goal.invariant-loop-i
invariant-loop-i l = (k : ℕ) → k < l.i → place l.basis k ≢ l.column
