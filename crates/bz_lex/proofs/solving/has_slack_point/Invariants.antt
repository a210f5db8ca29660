use Rattle.std.specs.Prelude.{ℕ, ◌<◌, pos, ◌≤ℤ◌}
use Rattle.bz_tableau.specs.Programs.{rhs_of}
use Rattle.bz_lex.proofs.solving.has_slack_point.Given as goal

abbrev pub invariant-loop-row : goal.invariant-loop-row
invariant-loop-row l = (k : ℕ) → k < l.row-index → (pos 0) ≤ℤ (rhs_of l.lp.rows k)
