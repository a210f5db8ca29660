-- The numbers of the sides of a leaf.
use Rattle.std.specs.Prelude.{ℕ, ℤ, pos, List, nat_lt, if◌then◌else◌}
use Rattle.bz_algebra.specs.Sums.{coef}
use Rattle.bz_model.specs.declared.Ineq.{Ineq}
use Rattle.bz_cut.specs.Rows.{master_at, own_at, rhs_at}
use Rattle.bz_tree.specs.LeafSides.{sides_in}
use Rattle.bz_tree.specs.declared.leaf_sides.Sides.{Sides}
use Rattle.bz_judge.specs.declared.leaf_sums.Place.{Place}
use Rattle.bz_judge.specs.declared.leaf_sums.Place.TheVariants as place

-- one number of side n of a list
abbrev pub number_in : List Ineq → Place → ℕ → ℤ
number_in sides (place.Master position) n = coef (master_at sides n) position
number_in sides (place.Eta eta) n = coef (own_at sides n) eta
number_in sides place.Right n = rhs_at sides n

-- what side n of a leaf has at a position of the master
abbrev pub master_number : Sides → ℕ → ℕ → ℤ
master_number sides position n = coef (master_at (sides_in sides) n) position

-- what f gives from a number on, and nothing before
abbrev pub numbers_from : ℕ → (ℕ → ℤ) → ℕ → ℤ
numbers_from first f n = (if nat_lt n first then pos 0 else f n)
