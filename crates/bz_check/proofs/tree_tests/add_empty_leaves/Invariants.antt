-- The nodes so far are narrow.
use Rattle.std.specs.List.{AllByRecursion}
use Rattle.bz_cert.specs.Shapes.{IsNarrowNode}
use Rattle.bz_check.proofs.tree_tests.add_empty_leaves.Given as goal

abbrev pub invariant-loop : goal.invariant-loop
invariant-loop l = AllByRecursion IsNarrowNode l.nodes.items
