use Rattle.std.specs.Prelude.{ℕ, ◌<◌, ◌≡◌, pos}
use Rattle.bz_tableau.specs.Laws.{place}
use Rattle.bz_tableau.specs.Tables.{shown}
use Rattle.bz_lex.proofs.towards.find_entry_in.Given as goal

abbrev pub invariant-loop-k : goal.invariant-loop-k
invariant-loop-k l = (i : ℕ) → i < l.k → shown l.tableau l.row (place l.goal i) ≡ pos 0
