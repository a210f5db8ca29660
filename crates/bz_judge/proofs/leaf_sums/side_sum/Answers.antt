use Rattle.bz_cut.proofs.Steps.{multipliers_below}
use Rattle.bz_judge.proofs.leaf_sums.side_sum.Goals as goal

pub sum_at-requires : goal.sum_at-requires
sum_at-requires c = multipliers_below _ c.args.multipliers.now c.requires.multipliers
