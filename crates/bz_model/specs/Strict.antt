-- Which partitions a model may be solved by.
use Rattle.std.specs.Prelude.{ℕ, ℤ, ◌≡◌, ◌+◌, ◌*◌, ◌<◌, ◌≤◌, ◌==◌, ◌⊎◌, List, length, Contains, IsSome, if◌then◌else◌}
use Rattle.std.specs.Bool.{OnTrue}
use Rattle.std.specs.List.{AllByRecursion, enumerate_from}
use Rattle.bz_algebra.specs.Sums.{AllBelow}
use Rattle.bz_model.specs.declared.records.Column.{Column}
use Rattle.bz_model.specs.declared.records.Model.{Model}
use Rattle.bz_model.specs.Limits.{block_limit, size_limit}
use Rattle.bz_model.specs.Parting.{part_of, blocks_of, home_of, inequalities_of, integers_of}

-- each index in a row or in the cost is a column
pub record HasItsColumns (m : Model) : Type 0 where
  pub rows : AllByRecursion (λ row. AllBelow (length m.columns) row.terms) m.rows
  pub cost : AllBelow (length m.columns) m.cost

-- one number per column, each number from 1 to the greatest used, none above the limit
pub record IsPartition (m : Model) (part : List ℕ) : Type 0 where
  pub numbers : length part ≡ length m.columns
  pub used : (b : ℕ) → 0 < b → b ≤ blocks_of part → Contains part b
  pub few : blocks_of part ≤ block_limit

-- no two columns of the row are in two blocks: each is in the master or in the row's block
abbrev pub IsInOneBlock : List ℕ → List (ℕ × ℤ) → Type 0
IsInOneBlock part terms =
    AllByRecursion (λ e. (part_of part e.0 ≡ 0) ⊎ (part_of part e.0 ≡ home_of part terms)) terms

-- an integer column is in the master, and a column of the master has two bounds
pub record IsStrictColumn (part : ℕ) (column : Column) : Type 0 where
  pub integer : OnTrue column.integer (part ≡ 0)
  pub bounded : part ≡ 0 → IsSome column.lower × IsSome column.upper

-- no row joins two blocks
abbrev pub AreUnjoined : Model → List ℕ → Type 0
AreUnjoined m part = AllByRecursion (λ row. IsInOneBlock part row.terms) m.rows

-- every column is where it may be
abbrev pub AreStrictColumns : Model → List ℕ → Type 0
AreStrictColumns m part = AllByRecursion (λ e. IsStrictColumn (part_of part e.0) e.1) (enumerate_from 0 m.columns)

-- how many inequalities a part has, with the two sides of the box of each integer column for the master
abbrev pub size_of : Model → List ℕ → ℕ → ℕ
size_of m part b = length (inequalities_of m part b) + (if b == 0 then 2 * length (integers_of m) else 0)

-- the partition is strict: no row joins two blocks, every column is where it may be, and no part is too large
pub record IsStrict (m : Model) (part : List ℕ) : Type 0 where
  pub rows : AreUnjoined m part
  pub columns : AreStrictColumns m part
  pub small : (b : ℕ) → b ≤ blocks_of part → size_of m part b ≤ size_limit
