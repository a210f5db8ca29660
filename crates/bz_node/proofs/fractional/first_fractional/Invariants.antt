-- The numbers so far are whole.
use Rattle.std.proofs.Common.{◌<◌, ℕ, slice_index_or}
use Rattle.bz_num.specs.Dense.{entry}
use Rattle.bz_model.specs.Points.{IsWhole}
use Rattle.bz_node.proofs.fractional.first_fractional.Given as goal

abbrev pub invariant-loop-position : goal.invariant-loop-position
invariant-loop-position l =
    (k : ℕ) → k < l.position-index → IsWhole (entry l.numbers (slice_index_or l.positions k 0)) l.fn.den
