-- What it is for a point to meet a model part by part.
use Rattle.std.specs.Prelude.{ℕ, ℤ, pos, ◌≡◌, ◌≤◌, ◌<ℤ◌, List, length}
use Rattle.std.specs.List.{AllByRecursion}
use Rattle.bz_model.specs.declared.records.Model.{Model}
use Rattle.bz_model.specs.Points.{coordinate, IsWithinBounds, IsWhole}
use Rattle.bz_model.specs.Parting.{blocks_of, inequalities_of, integers_of, IneqHolds}

-- the point p / q keeps the inequalities of the master and of each block, and each integer column is a whole number
-- within its bounds
pub record MeetsAllParts (m : Model) (part : List ℕ) (p : List ℤ) (q : ℤ) : Type 0 where
  pub positive : pos 0 <ℤ q
  pub numbers : length p ≡ length m.columns
  pub inequalities : (b : ℕ) → b ≤ blocks_of part → AllByRecursion (IneqHolds part b p q) (inequalities_of m part b)
  pub bounds : AllByRecursion (λ e. IsWithinBounds e.1.lower e.1.upper (coordinate p e.0) q) (integers_of m)
  pub whole : AllByRecursion (λ e. IsWhole (coordinate p e.0) q) (integers_of m)
