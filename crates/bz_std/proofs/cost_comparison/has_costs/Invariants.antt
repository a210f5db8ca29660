-- The positions so far have their numbers.
use Rattle.bz_algebra.specs.Sums.{coef}
use Rattle.bz_model.specs.Parting.{inner_cost, terms_in}
use Rattle.bz_std.specs.Compared.{HasNumbers}
use Rattle.bz_std.proofs.cost_comparison.has_costs.Given as goal

abbrev pub invariant-loop-position : goal.invariant-loop-position
invariant-loop-position l = HasNumbers l.row l.position (coef (terms_in l.split.part l.part (inner_cost l.split.model)))
