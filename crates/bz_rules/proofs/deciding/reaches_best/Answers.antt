use Rattle.std.proofs.Common.{subst}
use Rattle.bz_cut.specs.declared.Mode.{Mode}
use Rattle.bz_event.specs.Nodes.{FitsValue}
use Rattle.bz_rules.proofs.Decided.{best_fits}
use Rattle.bz_rules.proofs.deciding.reaches_best.Goals as goal

pub bounds-requires-clause-point : goal.bounds-requires-clause-point
bounds-requires-clause-point c = (best_fits c.args.split.now c.args.progress.now.state c.in-Some.best.now c.requires.fits c.in-Some.ensures).point

pub bounds-requires-clause-fits : goal.bounds-requires-clause-fits
bounds-requires-clause-fits c =
    subst (λ (way : Mode). FitsValue c.args.split.now.model c.args.split.now.part way c.in-Some.best.now.point) c.requires.cost
    (best_fits c.args.split.now c.args.progress.now.state c.in-Some.best.now c.requires.fits c.in-Some.ensures).value
