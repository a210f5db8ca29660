-- The entries to come are sparse exactly where all are.
use Rattle.std.proofs.Common.{drop, ◌↔◌}
use Rattle.bz_num.specs.Row.{IsSparse, IsSparseFrom}
use Rattle.bz_cert.proofs.lists.is_sparse.Given as goal

abbrev pub invariant-loop-entry : goal.invariant-loop-entry
invariant-loop-entry l = IsSparseFrom l.low (drop l.entry-index l.entries) ↔ IsSparse l.entries
