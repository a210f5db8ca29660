-- The parts so far are small.
use Rattle.std.proofs.Common.{ℕ, ◌<◌, ◌≤◌}
use Rattle.bz_model.specs.Limits.{size_limit}
use Rattle.bz_model.specs.Strict.{size_of}
use Rattle.bz_split.proofs.sizes.first_too_large.Given as goal

abbrev pub invariant-loop-b : goal.invariant-loop-b
invariant-loop-b l = (k : ℕ) → k < l.b → size_of l.model l.part k ≤ size_limit
