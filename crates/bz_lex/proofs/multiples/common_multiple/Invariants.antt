use Rattle.bz_lex.specs.Shown.{IsNarrowLeast, own_entry}
use Rattle.bz_lex.proofs.multiples.common_multiple.Given as goal

abbrev pub invariant-loop-k : goal.invariant-loop-k
invariant-loop-k l = IsNarrowLeast l.k (own_entry l.tableau l.order) l.least
