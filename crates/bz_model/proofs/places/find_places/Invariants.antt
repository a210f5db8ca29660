use Rattle.bz_model.proofs.Placing.{ArePlaced}
use Rattle.bz_model.proofs.places.find_places.Given as goal

abbrev pub invariant-loop-column : goal.invariant-loop-column
invariant-loop-column l = ArePlaced l.part l.column l.positions.items l.columns.items
