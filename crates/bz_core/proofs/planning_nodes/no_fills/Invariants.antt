use Rattle.std.proofs.Common.{◌≡◌}
use Rattle.std.specs.Prelude.{None, replicate}
use Rattle.std.specs.Vec.{vec_capacity}
use Rattle.bz_core.proofs.planning_nodes.no_fills.Given as goal

abbrev pub invariant-loop : goal.invariant-loop
invariant-loop l = (l.fills.items ≡ replicate l.counter None) × (vec_capacity l.fills ≡ l.blocks)
