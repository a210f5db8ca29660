use Rattle.std.proofs.Common.{◌≡◌, subst, sym}
use Rattle.bz_event.specs.declared.events.Event.{Event}
use Rattle.bz_history.specs.States.{effect}
use Rattle.bz_core.proofs.appending.enter_floor.Goals as goal

pub returns-in-Floor : goal.returns-in-Floor
returns-in-Floor c d =
    subst (λ (e : Event). c.add_floor.new.self.state ≡ effect d c.args.progress.now.state e) (sym c.in-Floor.is) (c.add_floor.ensures d c.in-Floor.block c.in-Floor.basis)

pub returns-in-Ray : goal.returns-in-Ray
returns-in-Ray c d =
    subst (λ (e : Event). c.set_ray.new.self.state ≡ effect d c.args.progress.now.state e) (sym c.in-Ray.is) (c.set_ray.ensures d)
