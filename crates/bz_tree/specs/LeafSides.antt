-- The sides of a leaf by their numbers, from the list of the integer columns' positions.
use Rattle.std.specs.Prelude.{ℕ, pos, negsuc, ◌≡◌, ◌+◌, ◌*◌, ◌<◌, List, [], ◌∷◌, ◌++◌, length, map, slice_index_or}
use Rattle.std.specs.List.{AllByRecursion, enumerate_from, flat_map}
use Rattle.std.proofs.Math.IntN.{neg_ℤ}
use Rattle.bz_algebra.specs.Numbers.{IsNarrow}
use Rattle.bz_model.specs.declared.Ineq.{Ineq}
use Rattle.bz_model.specs.Entries.{IsEntriesAt}
use Rattle.bz_model.specs.Points.{coordinate}
use Rattle.bz_model.specs.Rows.{own_at}
use Rattle.bz_cut.specs.declared.Cut.{Cut}
use Rattle.bz_tree.specs.Boxes.{Box}
use Rattle.bz_tree.specs.Leaves.{side_of_cut, side_of_master}
use Rattle.bz_tree.specs.declared.leaf_sides.Side.{Side}
use Rattle.bz_tree.specs.declared.leaf_sides.Sides.{Sides}
use Rattle.bz_tree.specs.declared.leaf_sides.Side.TheVariants as side

-- the upper and then the lower side of a box at its place k, for the integer column at a position
abbrev pub sides_at : Box → ℕ × ℕ → List Ineq
sides_at box e =
    record { own = []; master = (e.1, pos 1) ∷ []; rhs = coordinate box.upper e.0 }
    ∷ record { own = []; master = (e.1, negsuc 0) ∷ []; rhs = neg_ℤ (coordinate box.lower e.0) }
    ∷ []

-- the master's inequalities, the sides of the box at these positions, and the cuts
abbrev pub sides_among : List Ineq → List ℕ → Box → List Cut → List Ineq
sides_among rows positions box cuts =
    map side_of_master rows ++ flat_map (sides_at box) (enumerate_from 0 positions) ++ map side_of_cut cuts

-- The side has the number n: the inequalities of the master come first, then two sides for each integer column, and then
-- the cuts.
abbrev pub IsNumbered : ℕ → ℕ → ℕ → ℕ → Side → Type 0
IsNumbered rows integers cuts n (side.Row i) = (n ≡ i) × (i < rows)
IsNumbered rows integers cuts n (side.Upper k) = (n ≡ rows + 2 * k) × (k < integers)
IsNumbered rows integers cuts n (side.Lower k) = (n ≡ rows + 2 * k + 1) × (k < integers)
IsNumbered rows integers cuts n (side.OfCut i) = (n ≡ rows + 2 * integers + i) × (i < cuts)

-- the sides that the record of the code tells
abbrev pub sides_in : Sides → List Ineq
sides_in s = sides_among s.rows.now s.positions.now (record { lower = s.lower.now; upper = s.upper.now }) s.cuts.now

-- there is one end of each kind for each integer column, no number that is turned is wide, and what the master's
-- inequalities have at a position stands in the position's list
pub record AreSides (s : Sides) : Type 0 where
  pub lowers : length s.lower.now ≡ length s.positions.now
  pub uppers : length s.upper.now ≡ length s.positions.now
  pub narrow : AllByRecursion IsNarrow s.lower.now
  pub entries : (i : ℕ) → IsEntriesAt (own_at s.rows.now) i (slice_index_or s.entries.now i [])
