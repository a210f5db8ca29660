use Rattle.bz_rules.proofs.FittingStates.{states_fit}
use Rattle.bz_core.proofs.searches.Search.give_sep.Goals as goal

pub judge_separation-requires : goal.judge_separation-requires
judge_separation-requires c =
    states_fit c.self.inside.split.now c.self.inside.budget c.self.inside.root c.self.inside.history.items c.self.inside.progress.state c.self.invariant.replayed
