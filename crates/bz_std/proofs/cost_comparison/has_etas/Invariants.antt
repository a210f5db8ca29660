-- The etas so far have the number 1.
use Rattle.bz_std.specs.Compared.{HasOnes}
use Rattle.bz_std.proofs.cost_comparison.has_etas.Given as goal

abbrev pub invariant-loop-eta : goal.invariant-loop-eta
invariant-loop-eta l = HasOnes l.row l.width l.eta
