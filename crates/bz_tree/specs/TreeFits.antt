-- Where the sums of leaves are not wide.
use Rattle.std.specs.Prelude.{ℕ, ◌<◌, ◌*ℤ◌, List}
use Rattle.bz_algebra.specs.Sums.{coef}
use Rattle.bz_num.specs.Fold.{IsNarrowSum, pairs_at}
use Rattle.bz_model.specs.declared.Model.{Model}
use Rattle.bz_model.specs.Parting.{blocks_of, inner_cost, terms_in, width_of}
use Rattle.bz_cut.specs.declared.Cut.{Cut}
use Rattle.bz_cut.specs.Fits.{FitsEquation}
use Rattle.bz_cut.specs.Rows.{master_at, own_at, rhs_at}
use Rattle.bz_tree.specs.declared.records.Leaf.{Leaf}
use Rattle.bz_tree.specs.Boxes.{Box}
use Rattle.bz_tree.specs.Integers.{integer_at}
use Rattle.bz_tree.specs.Leaves.{sides_of}
use Rattle.bz_tree.specs.Trees.{Tree, with_lower, with_upper}

-- a leaf over a box: its equations on the master's positions, its sums on the etas, and that of the right sides
pub record FitsLeaf (m : Model) (part : List ℕ) (box : Box) (cuts : List Cut) (leaf : Leaf) : Type 0 where
  pub master : (i : ℕ) → i < width_of part 0 →
      FitsEquation leaf.lambda (λ n. coef (master_at (sides_of m part box cuts) n) i)
      (leaf.delta *ℤ coef (terms_in part 0 (inner_cost m)) i)
  pub etas : (b : ℕ) → b < blocks_of part →
      IsNarrowSum (pairs_at leaf.lambda (λ n. coef (own_at (sides_of m part box cuts) n) b))
  pub rhs : IsNarrowSum (pairs_at leaf.lambda (rhs_at (sides_of m part box cuts)))

-- each leaf of the tree over the box that the splits above it make of the tree's box
abbrev pub FitsTree : Model → List ℕ → List Cut → Box → Tree → Type 0
FitsTree m part cuts box (Tree.tip leaf) = FitsLeaf m part box cuts leaf
FitsTree m part cuts box (Tree.fork position left right below above) =
    FitsTree m part cuts (with_upper (integer_at m part position) left box) below
    × FitsTree m part cuts (with_lower (integer_at m part position) right box) above
