use Rattle.std.proofs.Common.{◌≡◌, subst, sym}
use Rattle.bz_event.specs.declared.events.Event.{Event}
use Rattle.bz_history.specs.States.{effect}
use Rattle.bz_core.proofs.entering.enter_first.Goals as goal

pub returns-in-Append : goal.returns-in-Append
returns-in-Append c d =
    subst (λ (e : Event). c.append.new.self.state ≡ effect d c.args.progress.now.state e) (sym c.in-Append.is) (c.append.ensures d c.in-Append.basis)

pub returns-in-Again : goal.returns-in-Again
returns-in-Again c d =
    subst (λ (e : Event). c.again.new.self.state ≡ effect d c.args.progress.now.state e) (sym c.in-Again.is) (c.again.ensures d c.in-Again.basis)

pub returns-in-Fill : goal.returns-in-Fill
returns-in-Fill c d =
    subst (λ (e : Event). c.fill.new.self.state ≡ effect d c.args.progress.now.state e) (sym c.in-Fill.is) (c.fill.ensures d)
