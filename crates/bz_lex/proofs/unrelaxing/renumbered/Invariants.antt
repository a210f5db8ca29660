use Rattle.std.specs.Prelude.{ℕ, ◌<◌, ◌≡◌, length}
use Rattle.bz_tableau.specs.Laws.{place}
use Rattle.bz_lex.specs.Renumbering.{unrelaxed}
use Rattle.bz_lex.proofs.unrelaxing.renumbered.Given as goal

abbrev pub invariant-loop-i : goal.invariant-loop-i
invariant-loop-i l = (length l.goal.items ≡ l.i) × ((k : ℕ) → k < l.i → place l.goal.items k ≡ unrelaxed l.s (place l.basis k))
