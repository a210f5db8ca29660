use Rattle.bz_history.proofs.PlaceSteps.{places_are_right}
use Rattle.bz_history.proofs.laws.places_are_right.Goals as goal

pub returns : goal.returns
returns c = places_are_right
