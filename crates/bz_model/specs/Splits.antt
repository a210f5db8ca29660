-- What a split is: a model with a partition that it may be solved by, and the lists that are kept beside it.
use Rattle.std.specs.Prelude.{ℕ, ◌≡◌, List}
use Rattle.bz_algebra.specs.Numbers.{IsNarrow}
use Rattle.bz_algebra.specs.Sums.{AllBelow}
use Rattle.bz_model.specs.declared.kept.Kept.{Kept}
use Rattle.bz_model.specs.declared.records.Ineq.{Ineq}
use Rattle.bz_model.specs.declared.records.Model.{Model}
use Rattle.bz_model.specs.Entries.{ArePartEntries}
use Rattle.bz_model.specs.Parting.{blocks_of, homes_of, width_of}
use Rattle.bz_model.specs.PartLists.{AreColumnLists, AreInequalityLists}
use Rattle.bz_model.specs.Strict.{HasItsColumns, IsPartition, IsStrict}

-- a model and a partition of its columns
pub record Decomposition : Type 0 where
  pub model : Model
  pub part : List ℕ

-- the model may be solved by the partition
pub record IsSplit (d : Decomposition) : Type 0 where
  pub indexes : HasItsColumns d.model
  pub partition : IsPartition d.model d.part
  pub strict : IsStrict d.model d.part

-- an inequality speaks of positions of part b and, beside them, of the master's, and its right side is narrow
pub record FitsPart (part : List ℕ) (b : ℕ) (i : Ineq) : Type 0 where
  pub own : AllBelow (width_of part b) i.own
  pub master : AllBelow (width_of part 0) i.master
  pub rhs : IsNarrow i.rhs

-- what a split keeps beside its model and partition: how many blocks, the part of each row, and the columns and the
-- inequalities of each part, with their numbers by position
pub record IsKept (m : Model) (part : List ℕ) (kept : Kept) : Type 0 where
  pub blocks_are : kept.blocks ≡ blocks_of part
  pub homes_are : kept.homes.items ≡ homes_of part m.rows
  pub columns_are : AreColumnLists part kept.columns.items
  pub inequalities_are : AreInequalityLists m part kept.inequalities.items
  pub entries_are : ArePartEntries m part kept.entries
