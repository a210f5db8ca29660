-- Trees that hold over the box of the whole model bound its inner cost, show that it is infeasible, and with parts that
-- reach the bound show that their point is optimal.
use Rattle.std.specs.Prelude.{ℕ, ℤ, pos, ◌*ℤ◌, ◌≤ℤ◌, ◌<ℤ◌, List}
use Rattle.std.specs.List.{AllByRecursion, enumerate_from}
use Rattle.bz_algebra.specs.Fractions.{IsSameNumber}
use Rattle.bz_algebra.specs.Sums.{dot}
use Rattle.bz_model.specs.declared.Model.{Model}
use Rattle.bz_model.specs.declared.Parts.{Parts}
use Rattle.bz_model.specs.Parting.{inner_cost}
use Rattle.bz_model.specs.Points.{coordinate, objective, IsFeasible, IsInfeasible, IsOptimal}
use Rattle.bz_model.proofs.MeetingParts.{all_then}
use Rattle.bz_cut.specs.declared.Cut.{Cut}
use Rattle.bz_tree.specs.Boxes.{Box, IsRootBox}
use Rattle.bz_model.specs.PartPoints.{HasPointShape, BlockHolds, IsPointOf}
use Rattle.bz_cut.specs.Cuts.{IsValid}
use Rattle.bz_model.specs.Decomposed.{IsDecomposed}
use Rattle.bz_pass.proofs.LeavesHold.{leaf_empties, passing_leaf_bounds}
use Rattle.bz_pass.proofs.MasterIntegers.{lies_in_root}
use Rattle.bz_pass.proofs.Optimality.{least_is_optimal}
use Rattle.bz_pass.proofs.PointsOfParts.{parts_are_feasible, parts_cost_at_most}
use Rattle.bz_pass.proofs.SomePoint.{the_point, is_point}
use Rattle.bz_tree.specs.declared.TreeNode.{TreeNode}
use Rattle.bz_tree.specs.Verdicts.{PassesInfeasible, PassesOptimal}
use Rattle.bz_model.specs.Stated.{objective_of}
use Rattle.bz_tree.specs.Trees.{Tree, HoldsOver, EachLeaf, IsEmpty, Reaches}
use Rattle.bz_pass.proofs.Covering.{holding_leaf}

pub tree_bounds : (m : Model) (part : List ℕ) (root : Box) (cuts : List Cut) (tree : Tree) (value den : ℤ) (p : List ℤ) (q : ℤ) → IsDecomposed m part → AllByRecursion (IsValid m part) cuts → IsRootBox m root → HoldsOver m part cuts root tree → EachLeaf (Reaches value den) tree → pos 0 <ℤ den → IsFeasible m p q → (value *ℤ q) ≤ℤ (dot (inner_cost m) (coordinate p) *ℤ den)
tree_bounds m part root cuts tree value den p q d v r h e some f =
    let at = holding_leaf (Reaches value den) m part cuts root tree p q h e f (lies_in_root m part root p q d r f) in
    passing_leaf_bounds m part at.0 cuts value den at.1 p q d v some (record { holds = at.2; bound = at.3 }) f at.4

pub tree_refutes : (m : Model) (part : List ℕ) (cuts : List Cut) (nodes : List TreeNode) → IsDecomposed m part → PassesInfeasible m part cuts nodes → IsInfeasible m
tree_refutes m part cuts nodes d s p q f =
    let at = holding_leaf IsEmpty m part cuts s.root s.tree p q s.holds s.empty f (lies_in_root m part s.root p q d s.is_root f) in
    leaf_empties m part at.0 cuts at.1 p q d s.cuts at.2 at.3 f at.4

pub tree_optimal : (m : Model) (part : List ℕ) (parts : Parts) (value : ℤ) (cuts : List Cut) (nodes : List TreeNode) (p : List ℤ) (q : ℤ) → IsDecomposed m part → PassesOptimal m part parts value cuts nodes → IsPointOf m part parts p q → IsOptimal m p q × IsSameNumber (objective m p q) (objective_of m value parts.master.den)
tree_optimal m part parts value cuts nodes p q d s r = least_is_optimal m parts.master.den value p q s.shape.point.master.den
    (parts_are_feasible m part parts p q d
    (record {
      shape = s.shape;
      master = s.master;
      root = s.root;
      is_root = s.is_root;
      integers = s.integers;
      rows = all_then (λ e. BlockHolds m part parts.master e.0 e.1) _ (enumerate_from 1 parts.blocks) s.blocks (λ e h. h.rows);
    })
    r)
    (parts_cost_at_most m part parts value p q d
    (record {
      shape = s.shape;
      costs = all_then (λ e. BlockHolds m part parts.master e.0 e.1) _ (enumerate_from 1 parts.blocks) s.blocks (λ e h. h.cost);
      value = s.value;
    })
    r)
    (λ p' q' f. tree_bounds m part s.root cuts s.tree value parts.master.den p' q' d s.cuts s.is_root s.holds s.bounds s.shape.point.master.den f)

pub some_point : (m : Model) (part : List ℕ) (parts : Parts) → IsDecomposed m part → HasPointShape m part parts → (p : List ℤ) × (q : ℤ) × IsPointOf m part parts p q
some_point m part parts d s = let r = is_point m part parts d.partition.numbers s in (the_point m part parts, _, r)
