-- Each block so far has a column.
use Rattle.std.proofs.Common.{ℕ, ◌<◌, Contains}
use Rattle.bz_part.proofs.part_text.first_gap.Given as goal

abbrev pub invariant-loop-block : goal.invariant-loop-block
invariant-loop-block l = (b : ℕ) → 0 < b → b < l.block → Contains l.part b
