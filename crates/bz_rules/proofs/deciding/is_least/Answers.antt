use Rattle.std.proofs.Common.{subst}
use Rattle.bz_cut.specs.declared.Mode.{Mode}
use Rattle.bz_event.specs.Nodes.{FitsValue}
use Rattle.bz_rules.proofs.Decided.{best_fits}
use Rattle.bz_rules.proofs.deciding.is_least.Goals as goal

pub is_less-requires-clause-best_point : goal.is_less-requires-clause-best_point
is_less-requires-clause-best_point c = (best_fits c.args.split.now c.args.progress.now.state c.in-Some.best.now c.requires.fits c.in-Some.ensures).point

pub is_less-requires-clause-best_fits : goal.is_less-requires-clause-best_fits
is_less-requires-clause-best_fits c =
    subst (λ (way : Mode). FitsValue c.args.split.now.model c.args.split.now.part way c.in-Some.best.now.point) c.requires.cost
    (best_fits c.args.split.now c.args.progress.now.state c.in-Some.best.now c.requires.fits c.in-Some.ensures).value
