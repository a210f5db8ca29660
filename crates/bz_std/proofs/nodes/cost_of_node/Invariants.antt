-- The master's cost, and 1 for the etas so far.
use Rattle.std.proofs.Common.{◌≡◌, ◌+◌, ◌*◌, ◌++◌}
use Rattle.bz_algebra.specs.Sums.{AllBelow}
use Rattle.bz_model.specs.Parting.{inner_cost, terms_in, width_of}
use Rattle.bz_std.specs.Posed.{over_columns}
use Rattle.bz_std.specs.Tasks.{ones}
use Rattle.bz_std.proofs.nodes.cost_of_node.Given as goal

abbrev pub invariant-loop-eta : goal.invariant-loop-eta
invariant-loop-eta l = record {
  value : l.row ≡ over_columns (terms_in l.split.part 0 (inner_cost l.split.model) ++ ones (width_of l.split.part 0) l.eta);
  below : AllBelow (2 * (width_of l.split.part 0 + l.eta)) l.row;
}
