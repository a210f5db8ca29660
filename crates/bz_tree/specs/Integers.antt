-- The integer columns of a model, which stand in the master: where, and whether a point of the master is whole there.
use Rattle.std.specs.Prelude.{ℕ, ◌*ℤ◌, ◌≤ℤ◌, ◌==◌, List, map}
use Rattle.std.specs.List.{position_or_len}
use Rattle.bz_model.specs.declared.Column.{Column}
use Rattle.bz_model.specs.declared.Master.{Master}
use Rattle.bz_model.specs.declared.Model.{Model}
use Rattle.bz_model.specs.Parting.{integers_of, position_of}
use Rattle.bz_model.specs.Points.{IsWhole, coordinate}
use Rattle.bz_tree.specs.Boxes.{Box}

-- the positions of the integer columns in the master, in file order
abbrev pub positions_of : Model → List ℕ → List ℕ
positions_of m part = map (λ e. position_of part e.0) (integers_of m)

-- which integer column, counted from 0 in file order, stands at a position of the master; as many as there are where
-- none does
abbrev pub integer_at : Model → List ℕ → ℕ → ℕ
integer_at m part position = position_or_len (λ e. position_of part e.0 == position) (integers_of m)

-- an integer column's coordinate is whole and within its ends of the box
pub record IntegerHolds (part : List ℕ) (box : Box) (master : Master) (e : ℕ × (ℕ × Column)) : Type 0 where
  pub whole : IsWhole (coordinate master.x (position_of part e.1.0)) master.den
  pub at_least : (coordinate box.lower e.0 *ℤ master.den) ≤ℤ coordinate master.x (position_of part e.1.0)
  pub at_most : coordinate master.x (position_of part e.1.0) ≤ℤ (coordinate box.upper e.0 *ℤ master.den)
