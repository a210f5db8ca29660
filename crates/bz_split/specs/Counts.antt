-- How many rows belong to each part.
use Rattle.std.specs.Prelude.{ℕ, ◌≡◌, ◌≤◌, ◌+◌, List, length, slice_index_or}
use Rattle.bz_model.specs.declared.records.Model.{Model}
use Rattle.bz_model.specs.Parting.{blocks_of, rows_in}
use Rattle.bz_model.specs.Splits.{Decomposition}

-- how many of the model's rows belong to a part
abbrev pub rows_of_part : Model → List ℕ → ℕ → ℕ
rows_of_part m part b = length (rows_in m part b)

-- the numbers are those of the rows of each part, the master's first
pub record AreRowCounts (d : Decomposition) (numbers : List ℕ) : Type 0 where
  pub parts : length numbers ≡ blocks_of d.part + 1
  pub counts : (b : ℕ) → b ≤ blocks_of d.part → slice_index_or numbers b 0 ≡ rows_of_part d.model d.part b
