-- no block of a post before is free
use Rattle.std.proofs.Common.{ℕ, ◌<◌}
use Rattle.bz_core.specs.Handing.{IsFreeSeparation}
use Rattle.bz_core.proofs.choices.choose_separation.Given as goal

abbrev pub invariant-loop-number : goal.invariant-loop-number
invariant-loop-number l = (i b : ℕ) → i < l.number → IsFreeSeparation l.blocks l.posts l.marks i b → ⊥
