-- The first inequalities stand in the rows of their positions.
use Rattle.bz_model.specs.Rows.{terms_at}
use Rattle.bz_model.proofs.ByPosition.{AreEntriesTo}
use Rattle.bz_model.proofs.entries.rows_by_position.Given as goal

abbrev pub invariant-loop-place : goal.invariant-loop-place
invariant-loop-place l = AreEntriesTo l.place l.width (terms_at l.which l.ineqs) l.rows.items
