use Rattle.std.proofs.Common.{rules, ◌∙◌, FitsSigned, to_z-of_z}
use Rattle.std.specs.Int.{w128}
use Rattle.bz_num.specs.Fold.{products}
use Rattle.bz_num.proofs.Folds.{fold-from_narrow}
use Rattle.bz_model.specs.Parting.{inner_cost, terms_in}
use Rattle.bz_model.specs.PointSums.{value_pairs}
use Rattle.bz_judge.proofs.FoundSums.{value_found}
use Rattle.bz_rules.proofs.deciding.value.Goals as goal

pub unreachable-requires : goal.unreachable-requires
unreachable-requires c =
    let narrow = fold-from_narrow (value_pairs (terms_in c.args.split.now.part 0 (inner_cost c.args.split.now.model)) c.args.point.now) c.requires.fits.0 in
    c.in_default.not-Ok (products (value_pairs (terms_in c.args.split.now.part 0 (inner_cost c.args.split.now.model)) c.args.point.now)) (c.value_sum.ensures ∙ narrow)

pub returns : goal.returns
returns c =
    let fits : FitsSigned w128 c.in-Ok.sum = search rules in
    rw (to_z-of_z fits) (value_found (terms_in c.args.split.now.part 0 (inner_cost c.args.split.now.model)) c.args.point.now c.value_sum.result c.in-Ok.sum c.value_sum.ensures c.in-Ok.is)
