use Rattle.bz_history.proofs.SizeSteps.{sizes_are_right}
use Rattle.bz_core.proofs.searches.Search.choose.Goals as goal

pub next_floor-requires : goal.next_floor-requires
next_floor-requires c =
    (sizes_are_right c.self.inside.split.now c.self.inside.budget c.self.inside.root c.self.inside.history.items c.self.inside.progress.state c.self.invariant.replayed).floors
