-- What parts, cuts and the nodes of a tree are to show for each of the three verdicts.
use Rattle.std.specs.Prelude.{ℕ, ℤ, ◌≡◌, ◌+ℤ◌, List}
use Rattle.std.specs.List.{AllByRecursion, enumerate_from}
use Rattle.bz_algebra.specs.Sums.{dot}
use Rattle.bz_model.specs.declared.Model.{Model}
use Rattle.bz_model.specs.declared.Parts.{Parts}
use Rattle.bz_model.specs.Parting.{terms_in, inequalities_of, integers_of, inner_cost}
use Rattle.bz_model.specs.Points.{coordinate}
use Rattle.bz_cut.specs.declared.Cut.{Cut}
use Rattle.bz_tree.specs.Boxes.{Box, IsRootBox}
use Rattle.bz_model.specs.PartPoints.{total, HasShape, HasPointShape, HoldsInMaster, HoldsInBlock, BlockHolds}
use Rattle.bz_model.specs.Rays.{IsFallingRay}
use Rattle.bz_tree.specs.Integers.{IntegerHolds}
use Rattle.bz_cut.specs.Cuts.{IsValid}
use Rattle.bz_tree.specs.declared.records.TreeNode.{TreeNode}
use Rattle.bz_tree.specs.Trees.{Tree, IsTreeOf, HoldsOver, EachLeaf, IsEmpty, Reaches}

-- The cuts and the nodes of a tree show that the model has no feasible point: the cuts are valid, and over the box of the
-- whole model the tree holds and has only empty leaves.
pub record PassesInfeasible (m : Model) (part : List ℕ) (pool : List Cut) (nodes : List TreeNode) : Type 0 where
  pub cuts : AllByRecursion (IsValid m part) pool
  pub root : Box
  pub is_root : IsRootBox m root
  pub tree : Tree
  pub is_tree : IsTreeOf nodes tree
  pub holds : HoldsOver m part pool root tree
  pub empty : EachLeaf IsEmpty tree

-- The parts, the cuts and the nodes of a tree show that `least` over the master's denominator is the least inner cost:
-- the parts are a feasible point, the number is the master's inner cost there with the etas, the cuts are valid, and over
-- the box of the whole model the tree holds, each of its leaves being empty or having a bound that is no less.
pub record PassesOptimal (m : Model) (part : List ℕ) (parts : Parts) (least : ℤ) (pool : List Cut) (nodes : List TreeNode) : Type 0 where
  pub shape : HasShape m part parts
  pub master : AllByRecursion (HoldsInMaster parts.master) (inequalities_of m part 0)
  pub root : Box
  pub is_root : IsRootBox m root
  pub integers : AllByRecursion (IntegerHolds part root parts.master) (enumerate_from 0 (integers_of m))
  pub blocks : AllByRecursion (λ e. BlockHolds m part parts.master e.0 e.1) (enumerate_from 1 parts.blocks)
  pub value : least ≡
      dot (terms_in part 0 (inner_cost m)) (coordinate parts.master.x) +ℤ total parts.master.eta
  pub cuts : AllByRecursion (IsValid m part) pool
  pub tree : Tree
  pub is_tree : IsTreeOf nodes tree
  pub holds : HoldsOver m part pool root tree
  pub bounds : EachLeaf (Reaches least parts.master.den) tree

-- The parts and the ray show that the model is unbounded: the parts are a feasible point, whatever their etas are, and the
-- inner cost falls along the ray without end.
pub record PassesUnbounded (m : Model) (part : List ℕ) (parts : Parts) (ray : List ℤ) : Type 0 where
  pub shape : HasPointShape m part parts
  pub master : AllByRecursion (HoldsInMaster parts.master) (inequalities_of m part 0)
  pub root : Box
  pub is_root : IsRootBox m root
  pub integers : AllByRecursion (IntegerHolds part root parts.master) (enumerate_from 0 (integers_of m))
  pub blocks : AllByRecursion
      (λ e. AllByRecursion (HoldsInBlock parts.master e.1) (inequalities_of m part e.0))
      (enumerate_from 1 parts.blocks)
  pub falls : IsFallingRay m ray
