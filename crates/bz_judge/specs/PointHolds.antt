-- What the tests of a point tell.
use Rattle.std.specs.Prelude.{ℕ, List}
use Rattle.std.specs.List.{AllByRecursion, enumerate_from}
use Rattle.bz_model.specs.declared.Model.{Model}
use Rattle.bz_model.specs.declared.Parts.{Parts}
use Rattle.bz_model.specs.Parting.{inequalities_of, integers_of}
use Rattle.bz_model.specs.PartPoints.{HoldsInBlock, HoldsInMaster}
use Rattle.bz_tree.specs.Boxes.{Box}
use Rattle.bz_tree.specs.Integers.{IntegerHolds}

-- the point of the parts meets the master, the box of the whole model and the blocks
pub record PointHolds (m : Model) (part : List ℕ) (root : Box) (parts : Parts) : Type 0 where
  pub master : AllByRecursion (HoldsInMaster parts.master) (inequalities_of m part 0)
  pub integers : AllByRecursion (IntegerHolds part root parts.master) (enumerate_from 0 (integers_of m))
  pub blocks : AllByRecursion
      (λ e. AllByRecursion (HoldsInBlock parts.master e.1) (inequalities_of m part e.0))
      (enumerate_from 1 parts.blocks)
