-- How many rows of a list count for the limit, and whether one is of kind N.
use Rattle.std.specs.Prelude.{ℕ, Bool, ◌≡◌, filter, length, List}
use Rattle.std.specs.List.{list_any}
use Rattle.bz_facts.specs.declared.records.RowType.{RowType}
use Rattle.bz_facts.specs.LineTests.{is_counted, is_free}

-- so many rows count, and this says whether one is of kind N
pub record AreCounted (rows : List RowType) (counted : ℕ) (objective : Bool) : Type 0 where
  pub count : counted ≡ length (filter is_counted rows)
  pub free : objective ≡ list_any is_free rows
