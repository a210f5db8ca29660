use Rattle.std.proofs.Common.{◌∙◌, ap}
use Rattle.bz_algebra.specs.Sums.{coef}
use Rattle.bz_num.specs.Fold.{fold_of}
use Rattle.bz_model.specs.Parting.{inequalities_of}
use Rattle.bz_model.specs.Rows.{terms_at}
use Rattle.bz_cut.proofs.Steps.{pairs_same}
use Rattle.bz_cut.proofs.sums.position_sum.Goals as goal

pub returns : goal.returns
returns c =
    c.sparse_sum.ensures
    ∙ ap fold_of
    (pairs_same c.args.multipliers.now (coef c.entries_at.result.now)
    (λ n. coef (terms_at c.args.terms (inequalities_of c.args.split.now.model c.args.split.now.part c.args.part) n) c.args.position)
    c.entries_at.ensures)
