-- Blocks whose costs have a least value along every direction, and nodes whose etas are held by cuts.
use Rattle.std.specs.Prelude.{ℕ, ◌≡◌, ◌<◌, ◌≤◌, ℤ, pos, ◌<ℤ◌, List, Contains}
use Rattle.bz_model.specs.declared.Model.{Model}
use Rattle.bz_cut.specs.declared.Cut.{Cut}
use Rattle.bz_std.specs.CutsFrom.{BalancesCost}
use Rattle.bz_std.specs.Meanings.{IsFallAlong}
use Rattle.bz_std.specs.Tasks.{floor}

-- along some direction of the block no inequality rises and the cost falls
abbrev pub CostFalls : Model → List ℕ → ℕ → Type 0
CostFalls m part b = (d : ℕ → ℤ) × IsFallAlong (floor m part b) d

-- some multipliers of the block's inequalities, none of them negative, balance the cost taken `raw` times, which is
-- more than 0
abbrev pub CostIsBalanced : Model → List ℕ → ℕ → Type 0
CostIsBalanced m part b = (y : ℕ → ℤ) × (raw : ℤ) × ((pos 0) <ℤ raw) × BalancesCost m part b y raw

-- one of the cuts is a floor of the block: it has a number above 0 at the block's eta
pub record HasFloor (cuts : List Cut) (b : ℕ) : Type 0 where
  pub cut : Cut
  pub among : Contains cuts cut
  pub block : cut.block ≡ b
  pub eta : (pos 0) <ℤ cut.p0

-- each block has a floor among the cuts
abbrev pub AreFloored : ℕ → List Cut → Type 0
AreFloored blocks cuts = (b : ℕ) → 0 < b → b ≤ blocks → HasFloor cuts b
