-- no block before is free
use Rattle.std.proofs.Common.{ℕ, ◌≤◌}
use Rattle.bz_core.specs.Handing.{IsFreeBlock}
use Rattle.bz_core.proofs.choices.choose_block.Given as goal

abbrev pub invariant-loop-place : goal.invariant-loop-place
invariant-loop-place l = (b : ℕ) → b ≤ l.place → IsFreeBlock l.blocks l.fills l.marks b → ⊥
