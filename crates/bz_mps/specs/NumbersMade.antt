-- What the numbers of a model are made of.
use Rattle.std.specs.Prelude.{ℕ, ◌≤◌}
use Rattle.bz_num.specs.declared.Dec.{Dec}
use Rattle.bz_num.specs.Decimals.{IsWithinLimits}
use Rattle.bz_mps.specs.ScaledRows.{digits_behind_point}

-- the decimal is within its limits, and whole once it is 10^k times as large, where k is not above 30
pub record IsScalable (k : ℕ) (d : Dec) : Type 0 where
  pub few : k ≤ 30
  pub within : IsWithinLimits d
  pub behind : digits_behind_point d ≤ k
