-- The products that the sums of a point add up, in their order: indexes rise.
use Rattle.std.specs.Prelude.{ℕ, ℤ, pos, negsuc, List, [], ◌∷◌, ◌++◌, map, if◌then◌else◌}
use Rattle.bz_num.specs.Fold.{pairs_at}
use Rattle.bz_model.specs.declared.parts.Master.{Master}
use Rattle.bz_model.specs.declared.records.Model.{Model}
use Rattle.bz_model.specs.Points.{coordinate}

-- the products of a row at a point
abbrev pub row_pairs : List (ℕ × ℤ) → List ℤ → List (ℤ × ℤ)
row_pairs row x = pairs_at row (coordinate x)

-- the number as a product
abbrev pub times_one : ℤ → ℤ × ℤ
times_one e = (pos 1, e)

-- the sum of an inequality in the master times a block's `times`, and then its sum in the block
abbrev pub joined_pairs : ℤ → ℤ → ℤ → List (ℤ × ℤ)
joined_pairs times in_master in_block = (times, in_master) ∷ times_one in_block ∷ []

-- the cost at the master's point, and then the etas
abbrev pub value_pairs : List (ℕ × ℤ) → Master → List (ℤ × ℤ)
value_pairs cost master = row_pairs cost master.x ++ map times_one master.eta

-- what a value is multiplied by
abbrev pub sign_of : Model → ℤ
sign_of m = (if m.maximise then negsuc 0 else pos 1)

-- the stated numerator: the value with its sign, then the constant over the denominator
abbrev pub stated_pairs : Model → ℤ → ℤ → List (ℤ × ℤ)
stated_pairs m value den = (sign_of m, value) ∷ (m.constant, den) ∷ []
