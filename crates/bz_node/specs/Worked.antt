-- What the tests' tasks fit: of the worked model with x in the master and y in block 1, a box of one integer column and
-- a floor of block 1 with a second cut.
use Rattle.std.specs.Prelude.{ℕ, ◌≡◌, pos, List, [], ◌∷◌, length}
use Rattle.bz_algebra.specs.Sums.{AllBelow}
use Rattle.bz_cut.specs.declared.Cut.{Cut}
use Rattle.bz_event.specs.declared.tasks.NodeTask.{NodeTask}

-- the second cut is of block 1 too, over one position of the master
abbrev pub IsSecondCut : Cut → Type 0
IsSecondCut cut = (cut.block ≡ 1) × AllBelow 1 cut.alpha

-- the floor `-eta <= 0` of block 1, and then another cut
abbrev pub AreTestCuts : List Cut → Type 0
AreTestCuts [] = ⊥
AreTestCuts (floor ∷ []) = ⊥
AreTestCuts (floor ∷ cut ∷ []) =
    (floor.block ≡ 1) × (floor.p0 ≡ pos 1) × (floor.alpha ≡ []) × IsSecondCut cut
AreTestCuts (floor ∷ cut ∷ next ∷ rest) = ⊥

-- a box of one integer column, and these cuts
pub record IsTestTask (task : NodeTask) : Type 0 where
  pub lower : length task.region.lower ≡ 1
  pub upper : length task.region.upper ≡ 1
  pub cuts : AreTestCuts task.cuts
