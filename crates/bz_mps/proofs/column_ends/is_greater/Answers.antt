use Rattle.std.proofs.Common.{◌∙◌}
use Rattle.bz_mps.proofs.EndLemmas.{greater_by}
use Rattle.bz_mps.proofs.column_ends.is_greater.Goals as goal

pub returns : goal.returns
returns c =
    c.is_gt.ensures
    ∙ greater_by c.args.lower c.args.upper c.fraction_of.result c.fraction_of-2.result c.fraction_of.ensures c.fraction_of-2.ensures c.cmp_frac.result c.cmp_frac.ensures
