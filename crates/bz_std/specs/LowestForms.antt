-- Points in lowest form, and what it is for one to meet a node.
use Rattle.std.specs.Prelude.{ℕ, ◌≡◌, ◌<◌, ℤ, pos, ◌*ℤ◌, ◌≤ℤ◌, ◌<ℤ◌, List, length, unsigned_abs}
use Rattle.std.specs.Int.{◌∣◌}
use Rattle.std.specs.List.{AllByRecursion, enumerate_from}
use Rattle.bz_model.specs.declared.Column.{Column}
use Rattle.bz_model.specs.declared.Master.{Master}
use Rattle.bz_model.specs.declared.Model.{Model}
use Rattle.bz_model.specs.Parting.{inequalities_of, integers_of, position_of}
use Rattle.bz_model.specs.PartPoints.{HoldsInMaster}
use Rattle.bz_model.specs.Points.{coordinate}
use Rattle.bz_cut.specs.declared.Cut.{Cut}
use Rattle.bz_cut.specs.Points.{CutsOff}
use Rattle.bz_tree.specs.Boxes.{Box}

-- `values / low` are the n numbers `f / den` in lowest form: both are the same positive number of times smaller, and no
-- natural but 1 divides `low` and all values
pub record IsLowestOf (n : ℕ) (den : ℤ) (f : ℕ → ℤ) (low : ℤ) (values : List ℤ) : Type 0 where
  pub count : length values ≡ n
  pub times : ℤ
  pub positive : (pos 0) <ℤ times
  pub den_is : times *ℤ low ≡ den
  pub values_are : (j : ℕ) → j < n → times *ℤ coordinate values j ≡ f j
  pub lowest : (d : ℕ) → d ∣ unsigned_abs low → ((j : ℕ) → j < n → d ∣ unsigned_abs (coordinate values j)) → d ≡ 1

-- the number of an integer column lies between its ends of the box, the ones at the column's place among the integers
pub record IsWithinEnds (part : List ℕ) (box : Box) (point : Master) (e : ℕ × (ℕ × Column)) : Type 0 where
  pub at_least : (coordinate box.lower e.0 *ℤ point.den) ≤ℤ coordinate point.x (position_of part e.1.0)
  pub at_most : coordinate point.x (position_of part e.1.0) ≤ℤ (coordinate box.upper e.0 *ℤ point.den)

-- the master's inequalities hold at the point, its integer columns lie in the box, and none of the cuts cuts it off
pub record MeetsNode (m : Model) (part : List ℕ) (box : Box) (cuts : List Cut) (point : Master) : Type 0 where
  pub rows : AllByRecursion (HoldsInMaster point) (inequalities_of m part 0)
  pub ends : AllByRecursion (IsWithinEnds part box point) (enumerate_from 0 (integers_of m))
  pub kept : AllByRecursion (λ cut. ¬ CutsOff cut point) cuts
