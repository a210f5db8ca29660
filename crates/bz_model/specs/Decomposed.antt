-- Models that may be solved by a partition of their columns.
use Rattle.std.specs.Prelude.{ℕ, List}
use Rattle.bz_model.specs.declared.records.Model.{Model}
use Rattle.bz_model.specs.Strict.{HasItsColumns, IsPartition, IsStrict}

-- the model may be solved by the partition
pub record IsDecomposed (m : Model) (part : List ℕ) : Type 0 where
  pub columns : HasItsColumns m
  pub partition : IsPartition m part
  pub strict : IsStrict m part
