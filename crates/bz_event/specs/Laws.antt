-- What is proved of what makers promise.
use Rattle.std.specs.Prelude.{ℕ, ◌<◌, ◌≤◌, ℤ, List}
use Rattle.bz_model.specs.declared.Model.{Model}
use Rattle.bz_model.specs.Decomposed.{IsDecomposed}
use Rattle.bz_model.specs.Parting.{blocks_of}
use Rattle.bz_model.specs.Rays.{IsFallingRay}
use Rattle.bz_event.specs.Floors.{IsFloorRay, placed}

-- Along the direction of a floor's answer, at the block's columns and 0 elsewhere, every feasible point of the model stays
-- feasible, and the inner cost falls.
abbrev pub RaysFallInTheModel : Type 0
RaysFallInTheModel =
    (m : Model) (part : List ℕ) (b : ℕ) (d : List ℤ) → IsDecomposed m part → 0 < b → b ≤ blocks_of part →
    IsFloorRay m part b d → IsFallingRay m (placed part b d)
