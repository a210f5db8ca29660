use Rattle.bz_lex.specs.Shown.{AreValuesTo}
use Rattle.bz_lex.proofs.values.values.Given as goal

abbrev pub invariant-loop-k : goal.invariant-loop-k
invariant-loop-k l = AreValuesTo l.k l.tableau l.order l.initial.den l.column l.values.items
