-- The numbers of the positions so far.
use Rattle.std.proofs.Common.{◌≡◌, ◌*◌}
use Rattle.bz_algebra.specs.Sums.{AllBelow, coef}
use Rattle.bz_model.specs.Parting.{inner_cost, terms_in}
use Rattle.bz_std.specs.Posed.{over_columns}
use Rattle.bz_std.proofs.Listed.{listed}
use Rattle.bz_std.proofs.costs.cost_over_columns.Given as goal

abbrev pub invariant-loop-position : goal.invariant-loop-position
invariant-loop-position l = record {
  value : l.row ≡ over_columns (listed (coef (terms_in l.split.part l.part (inner_cost l.split.model))) l.position);
  below : AllBelow (2 * l.position) l.row;
}
