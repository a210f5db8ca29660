-- A column that is basic comes behind those before it.
use Rattle.bz_tableau.specs.Laws.{place}
use Rattle.std.proofs.Common.{length}
use Rattle.bz_lex.proofs.RisingOrders.{rising_more}
use Rattle.bz_lex.proofs.order.rising_order.Goals as goal

pub loop-j-preserved : goal.loop-j-preserved
loop-j-preserved c =
    let found = rw (c.in-Some.is, c.basis.ensures) at c.place_of.ensures in
    rw c.in_ok-push.ensures.items (rising_more (length c.args.tableau.now.basis) c.loop-j.j (place c.args.tableau.now.basis) c.loop-j.order.items c.in-Some.i c.loop-j.invariant found.0 found.1)
