use Rattle.std.proofs.Common.{◌≤◌, subst, sym}
use Rattle.std.specs.List.{AllByRecursion}
use Rattle.bz_model.specs.Parting.{blocks_of}
use Rattle.bz_model.specs.Splits.{Decomposition, FitsPart, IsSplit}
use Rattle.bz_model.proofs.Inequalities.{inequalities_fit}
use Rattle.bz_model.proofs.Placing.{kept_inequalities}
use Rattle.bz_model.proofs.splitting.Split.inequalities.Goals as goal

pub returns-clause-fits : goal.returns-clause-fits
returns-clause-fits c =
    let m = c.self.inside.model in
    let part = c.self.inside.part in
    let split : IsSplit (record { model = m; part = part }) = c.self.invariant.0 in
    let within : c.args.part ≤ blocks_of part = subst (λ (d : Decomposition). c.args.part ≤ blocks_of d.part) (sym c.self.view_is) c.requires in
    subst (λ (d : Decomposition). AllByRecursion (FitsPart d.part c.args.part) c.as_slice.result.now) c.self.view_is
    (rw (c.as_slice.ensures, kept_inequalities m part c.args.part c.index.result.now c.self.invariant.1 within c.index.ensures)
    (inequalities_fit m part c.args.part split.indexes split.partition.numbers))
