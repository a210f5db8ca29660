use Rattle.std.specs.Prelude.{length}
use Rattle.bz_tableau.specs.Laws.{place}
use Rattle.bz_tableau.specs.WidePlaces.{IsRisingOrder}
use Rattle.bz_lex.proofs.order.rising_order.Given as goal

abbrev pub invariant-loop-j : goal.invariant-loop-j
invariant-loop-j l = IsRisingOrder (length l.tableau.basis) l.j (place l.tableau.basis) l.order.items
