-- What a passing certificate of each verdict proves.
use Rattle.std.specs.Prelude.{ℤ, ℕ, pos, ◌≡◌, ◌+ℤ◌, ◌*ℤ◌, ◌<ℤ◌, ◌≤ℤ◌, List}
use Rattle.std.specs.List.{AllByRecursion}
use Rattle.std.proofs.Math.IntN.{neg_ℤ}
use Rattle.bz_algebra.specs.Fractions.{IsSameNumber}
use Rattle.bz_algebra.specs.Sums.{dot}
use Rattle.bz_model.specs.declared.Model.{Model}
use Rattle.bz_model.specs.declared.Parts.{Parts}
use Rattle.bz_model.specs.Decomposed.{IsDecomposed}
use Rattle.bz_model.specs.Parting.{column_at, terms_in, inner_cost}
use Rattle.bz_model.specs.Points.{coordinate, objective, IsFeasible, IsInfeasible, IsOptimal, IsUnbounded}
use Rattle.bz_cut.specs.declared.Cut.{Cut}
use Rattle.bz_cut.specs.Cuts.{IsValid}
use Rattle.bz_tree.specs.declared.Leaf.{Leaf}
use Rattle.bz_tree.specs.declared.TreeNode.{TreeNode}
use Rattle.bz_tree.specs.Boxes.{Box, IsRootBox, LiesIn}
use Rattle.bz_tree.specs.Leaves.{LeafHolds}
use Rattle.bz_tree.specs.Trees.{Tree, HasLeaf, HasSplits, HoldsOver, EachLeaf, Reaches}
use Rattle.bz_model.specs.PartPoints.{HasPointShape, IsPointOf}
use Rattle.bz_tree.specs.Verdicts.{PassesInfeasible, PassesOptimal, PassesUnbounded}
use Rattle.bz_model.specs.Stated.{objective_of}

-- the inner cost of block b at the point p
abbrev pub block_cost : Model → List ℕ → List ℤ → ℕ → ℤ
block_cost m part p b = dot (terms_in part b (inner_cost m)) (λ i. coordinate p (column_at part b i))

-- A valid cut holds at each feasible point p / q, with its block's inner cost there as its eta.
abbrev pub ValidCutsHold : Type 0
ValidCutsHold =
    (m : Model) (part : List ℕ) (cut : Cut) (p : List ℤ) (q : ℤ) → IsDecomposed m part → IsValid m part cut → IsFeasible m p q →
    ((neg_ℤ cut.p0 *ℤ block_cost m part p cut.block) +ℤ dot cut.alpha (λ i. coordinate p (column_at part 0 i))) ≤ℤ (cut.beta *ℤ q)

-- A leaf bounds the inner cost of each feasible point that lies in its box, whatever the box: `bound / delta` at least.
-- With delta 0 there is no such point.
pub record LeavesBoundBoxes : Type 0 where
  pub bounds : (m : Model) (part : List ℕ) (box : Box) (cuts : List Cut) (leaf : Leaf) (p : List ℤ) (q : ℤ) →
      IsDecomposed m part → AllByRecursion (IsValid m part) cuts → LeafHolds m part box cuts leaf → IsFeasible m p q → LiesIn m box p q →
      (leaf.bound *ℤ q) ≤ℤ (leaf.delta *ℤ dot (inner_cost m) (coordinate p))
  pub empties : (m : Model) (part : List ℕ) (box : Box) (cuts : List Cut) (leaf : Leaf) (p : List ℤ) (q : ℤ) →
      IsDecomposed m part → AllByRecursion (IsValid m part) cuts → LeafHolds m part box cuts leaf → leaf.delta ≡ pos 0 →
      IsFeasible m p q → ¬ LiesIn m box p q

-- Each feasible point lies in the root's box.
abbrev pub RootHasAllPoints : Type 0
RootHasAllPoints =
    (m : Model) (part : List ℕ) (root : Box) (p : List ℤ) (q : ℤ) → IsDecomposed m part → IsRootBox m root → IsFeasible m p q →
    LiesIn m root p q

-- Each feasible point in a box lies in the box of some leaf of each tree over it.
abbrev pub LeavesCoverBoxes : Type 0
LeavesCoverBoxes =
    (m : Model) (part : List ℕ) (box : Box) (tree : Tree) (p : List ℤ) (q : ℤ) →
    HasSplits m part tree → IsFeasible m p q → LiesIn m box p q →
    (own : Box) × (leaf : Leaf) × HasLeaf m part box tree own leaf × LiesIn m own p q

-- Where a tree holds over the box of the whole model, with valid cuts, and each of its leaves is empty or has a bound that
-- is no less than value / den, no feasible point has an inner cost below value / den.
abbrev pub TreesBoundCosts : Type 0
TreesBoundCosts =
    (m : Model) (part : List ℕ) (root : Box) (cuts : List Cut) (tree : Tree) (value den : ℤ) (p : List ℤ) (q : ℤ) →
    IsDecomposed m part → AllByRecursion (IsValid m part) cuts → IsRootBox m root → HoldsOver m part cuts root tree →
    EachLeaf (Reaches value den) tree → pos 0 <ℤ den → IsFeasible m p q →
    (value *ℤ q) ≤ℤ (dot (inner_cost m) (coordinate p) *ℤ den)

-- A model with a passing certificate of infeasibility has no feasible point.
abbrev pub PassingIsInfeasible : Type 0
PassingIsInfeasible =
    (m : Model) (part : List ℕ) (cuts : List Cut) (nodes : List TreeNode) →
    IsDecomposed m part → PassesInfeasible m part cuts nodes → IsInfeasible m

-- Each point of the parts of a passing certificate of an optimum is optimal, and the certificate states its objective.
abbrev pub PassingIsOptimal : Type 0
PassingIsOptimal =
    (m : Model) (part : List ℕ) (parts : Parts) (value : ℤ) (cuts : List Cut) (nodes : List TreeNode) (p : List ℤ) (q : ℤ) →
    IsDecomposed m part → PassesOptimal m part parts value cuts nodes → IsPointOf m part parts p q →
    IsOptimal m p q × IsSameNumber (objective m p q) (objective_of m value parts.master.den)

-- Parts with the shape of the model's are those of some point, whatever their etas are.
abbrev pub PartsHaveAPoint : Type 0
PartsHaveAPoint =
    (m : Model) (part : List ℕ) (parts : Parts) → IsDecomposed m part → HasPointShape m part parts →
    (p : List ℤ) × (q : ℤ) × IsPointOf m part parts p q

-- A model with a passing certificate of a ray is unbounded.
abbrev pub PassingIsUnbounded : Type 0
PassingIsUnbounded =
    (m : Model) (part : List ℕ) (parts : Parts) (ray : List ℤ) →
    IsDecomposed m part → PassesUnbounded m part parts ray → IsUnbounded m

-- Each point of the parts of such a certificate is feasible, whatever their etas are.
abbrev pub PointsOfRaysAreFeasible : Type 0
PointsOfRaysAreFeasible =
    (m : Model) (part : List ℕ) (parts : Parts) (ray p : List ℤ) (q : ℤ) →
    IsDecomposed m part → PassesUnbounded m part parts ray → IsPointOf m part parts p q → IsFeasible m p q
