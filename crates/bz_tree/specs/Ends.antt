-- The boxes of the code, and lists of the ends of integer columns.
use Rattle.std.specs.Prelude.{ℤ, List, [], ◌∷◌, filter, IfSome}
use Rattle.bz_algebra.specs.Numbers.{IsNarrow}
use Rattle.bz_model.specs.declared.Column.{Column}
use Rattle.bz_num.specs.Rounding.{IsCeiling, IsFloor}
use Rattle.bz_tree.specs.Boxes.{Box}
use Rattle.bz_tree.specs.declared.records.NodeBox.{NodeBox}

-- the box that a record of the code holds
abbrev pub box_of : NodeBox → Box
box_of b = record { lower = b.lower; upper = b.upper }

-- the integer columns of a list
abbrev pub integers_among : List Column → List Column
integers_among columns = filter (λ column. column.integer) columns

-- the number is a column's lower bound, rounded up
pub record IsLowerEnd (column : Column) (end : ℤ) : Type 0 where
  pub rounded : IfSome column.lower (λ f. IsCeiling f end)
  pub narrow : IsNarrow end

-- the number is a column's upper bound, rounded down
pub record IsUpperEnd (column : Column) (end : ℤ) : Type 0 where
  pub rounded : IfSome column.upper (λ f. IsFloor f end)
  pub narrow : IsNarrow end

-- the numbers are the columns' ends, one each
abbrev pub AreEnds : (Column → ℤ → Type 0) → List Column → List ℤ → Type 0
AreEnds IsEnd [] [] = Unit {0}
AreEnds IsEnd [] (end ∷ ends) = ⊥
AreEnds IsEnd (column ∷ columns) [] = ⊥
AreEnds IsEnd (column ∷ columns) (end ∷ ends) = IsEnd column end × AreEnds IsEnd columns ends
