use Rattle.std.proofs.Common.{◌≡◌, subst, sym}
use Rattle.bz_event.specs.declared.events.Event.{Event}
use Rattle.bz_event.specs.declared.events.Event.TheVariants as event
use Rattle.bz_event.specs.declared.events.How.{How}
use Rattle.bz_history.specs.States.{effect}
use Rattle.bz_core.proofs.entering_nodes.enter_node.Goals as goal

pub returns-in-Leaf : goal.returns-in-Leaf
returns-in-Leaf c =
    subst (λ (e : Event). c.close.new.self.state ≡ effect c.args.split.now c.args.progress.now.state e) (sym c.in-Close.is)
    (subst (λ (h : How). c.close.new.self.state ≡ effect c.args.split.now c.args.progress.now.state (event.Close c.in-Close.node h)) (sym c.in-Leaf.is) (c.close.ensures c.args.split.now))
