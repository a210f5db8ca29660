use Rattle.std.specs.Prelude.{ℕ, ◌<◌}
use Rattle.bz_lex.specs.Ways.{IsOtherEntry}
use Rattle.bz_lex.proofs.unrelaxing.find_other_entry.Given as goal

abbrev pub invariant-loop-j : goal.invariant-loop-j
invariant-loop-j l = (k : ℕ) → k < l.j → IsOtherEntry l.tableau l.row l.other k → ⊥
