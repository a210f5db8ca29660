-- The best point so far.
use Rattle.std.specs.Prelude.{◌≡◌, Option, Some, None}
use Rattle.bz_model.specs.declared.Parts.{Parts}
use Rattle.bz_history.specs.declared.state.Post.{Post}
use Rattle.bz_history.specs.Finished.{parts_of}
use Rattle.bz_history.specs.States.{State}
use Rattle.bz_history.specs.Steps.{IsBest}

-- the parts are those of the best post, or there is none
abbrev pub IsBestParts : State → Option Parts → Type 0
IsBestParts t None = t.best ≡ None
IsBestParts t (Some parts) = (post : Post) × IsBest t post × (parts ≡ parts_of post)
