use Rattle.std.specs.Prelude.{◌<◌, ◌≡◌, ◌⊎◌, length}
use Rattle.bz_lex.specs.Phases.{IsGreatestOf}
use Rattle.bz_lex.proofs.entering.greatest_size.Given as goal

abbrev pub invariant-loop-row : goal.invariant-loop-row
invariant-loop-row l = IsGreatestOf l.tableau l.column (λ i. (i < l.row) ⊎ (i ≡ length l.tableau.basis)) l.greatest
