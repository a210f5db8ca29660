use Rattle.std.specs.Prelude.{ℕ, ◌<◌}
use Rattle.bz_lex.specs.Shown.{IsFreeFall}
use Rattle.bz_lex.proofs.signs.first_fall.Given as goal

abbrev pub invariant-loop-j : goal.invariant-loop-j
invariant-loop-j l = (k : ℕ) → k < l.j → IsFreeFall l.tableau k → ⊥
