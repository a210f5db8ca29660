-- The rows so far have columns of the goal.
use Rattle.std.specs.Prelude.{false, ◌≡◌, length}
use Rattle.bz_lex.proofs.GoalWays.{IsOnWay}
use Rattle.bz_lex.proofs.towards.tableau_at.Given as goal

abbrev pub invariant-loop-row : goal.invariant-loop-row
invariant-loop-row l = IsOnWay l.row false l.lp l.goal l.tableau × (length l.tableau.basis ≡ l.rows)
