-- Leaves: multipliers of the inequalities that hold in a box, which bound the inner cost there from below or show that
-- the box has no feasible point.
use Rattle.std.specs.Prelude.{ℕ, pos, negsuc, ◌≡◌, ◌-◌, ◌*ℤ◌, ◌<◌, ◌<ℤ◌, ◌≤ℤ◌, List, [], ◌∷◌, ◌++◌, length, map}
use Rattle.std.specs.List.{enumerate_from, flat_map}
use Rattle.std.proofs.Math.IntN.{neg_ℤ}
use Rattle.bz_algebra.specs.Sums.{dot, coef}
use Rattle.bz_model.specs.declared.Column.{Column}
use Rattle.bz_model.specs.declared.Ineq.{Ineq}
use Rattle.bz_model.specs.declared.Model.{Model}
use Rattle.bz_model.specs.Parting.{blocks_of, width_of, position_of, terms_in, inequalities_of, integers_of, inner_cost}
use Rattle.bz_model.specs.Points.{coordinate}
use Rattle.bz_tree.specs.Boxes.{Box}
use Rattle.bz_cut.specs.declared.Cut.{Cut}
use Rattle.bz_tree.specs.declared.records.Leaf.{Leaf}
use Rattle.bz_cut.specs.Rows.{own_at, master_at, rhs_at, AreMultipliers}

-- In the sides of a leaf `own` speaks of the etas, that of block b at place b - 1, and `master` of the master's
-- positions.

-- an inequality of the master, which has no etas
abbrev pub side_of_master : Ineq → Ineq
side_of_master i = record { own = []; master = i.own; rhs = i.rhs }

-- the upper and then the lower side of the box at its place k, for the integer column e
abbrev pub sides_of_box : List ℕ → Box → ℕ × (ℕ × Column) → List Ineq
sides_of_box part box e =
    record { own = []; master = (position_of part e.1.0, pos 1) ∷ []; rhs = coordinate box.upper e.0 }
    ∷ record { own = []; master = (position_of part e.1.0, negsuc 0) ∷ []; rhs = neg_ℤ (coordinate box.lower e.0) }
    ∷ []

-- the cut: alpha on the master and -p0 on its block's eta
abbrev pub side_of_cut : Cut → Ineq
side_of_cut cut = record { own = (cut.block - 1, neg_ℤ cut.p0) ∷ []; master = cut.alpha; rhs = cut.beta }

-- The sides that a leaf's multipliers are numbered by: the master's inequalities, then the upper and the lower side of
-- each integer column in the box, then the cuts.
abbrev pub sides_of : Model → List ℕ → Box → List Cut → List Ineq
sides_of m part box cuts =
    map side_of_master (inequalities_of m part 0)
    ++ flat_map (sides_of_box part box) (enumerate_from 0 (integers_of m))
    ++ map side_of_cut cuts

-- The lambda-sum of the sides is `-delta (inner cost of the master + the etas) <= -bound`. With delta 0 it has no
-- solution, and the leaf is called empty.
pub record LeafHolds (m : Model) (part : List ℕ) (box : Box) (cuts : List Cut) (leaf : Leaf) : Type 0 where
  pub lambda : AreMultipliers (length (sides_of m part box cuts)) leaf.lambda
  pub delta : pos 0 ≤ℤ leaf.delta
  pub master : (i : ℕ) → i < width_of part 0 →
      dot leaf.lambda (λ n. coef (master_at (sides_of m part box cuts) n) i)
      ≡ neg_ℤ (leaf.delta *ℤ coef (terms_in part 0 (inner_cost m)) i)
  pub etas : (b : ℕ) → b < blocks_of part →
      dot leaf.lambda (λ n. coef (own_at (sides_of m part box cuts) n) b) ≡ neg_ℤ leaf.delta
  pub rhs : dot leaf.lambda (rhs_at (sides_of m part box cuts)) ≡ neg_ℤ leaf.bound
  pub empty : leaf.delta ≡ pos 0 → pos 0 <ℤ leaf.bound
