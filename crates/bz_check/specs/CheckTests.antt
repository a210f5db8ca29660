-- The tests of a whole certificate, in their order. A test answers the fault that it stands for; the tests that a sum is
-- not wide stand where the sum stands.
use Rattle.std.specs.Prelude.{ℕ, ℤ, ◌≡◌, ◌+◌, List, [], ◌∷◌, ◌++◌, length, Option, Some, None}
use Rattle.std.specs.List.{enumerate_from}
use Rattle.bz_first.specs.Tests.{IsFirstFault, answered, each_of, test}
use Rattle.bz_model.specs.declared.Ineq.{Ineq}
use Rattle.bz_model.specs.declared.Model.{Model}
use Rattle.bz_model.specs.declared.Parts.{Parts}
use Rattle.bz_model.specs.PartPoints.{HasPointShape, HasShape}
use Rattle.bz_cut.specs.declared.Cut.{Cut}
use Rattle.bz_cut.specs.declared.CutFault.{CutFault}
use Rattle.bz_cut.specs.declared.CutFault.TheVariants as of_cut
use Rattle.bz_cut.specs.CutTests.{cut_tests}
use Rattle.bz_tree.specs.declared.Leaf.{Leaf}
use Rattle.bz_tree.specs.Boxes.{Box, IsRootBox}
use Rattle.bz_tree.specs.Integers.{integer_at}
use Rattle.bz_tree.specs.Leaves.{sides_of}
use Rattle.bz_tree.specs.Trees.{IsEmpty, IsSplitOf, IsTreeOf, Reaches, Tree, preorder, with_lower, with_upper}
use Rattle.bz_cert.specs.declared.Certificate.{Certificate}
use Rattle.bz_cert.specs.declared.Verdict.{Verdict}
use Rattle.bz_cert.specs.declared.Verdict.TheVariants.{Optimal, Infeasible, Unbounded}
use Rattle.bz_judge.specs.declared.CheckFault.{CheckFault}
use Rattle.bz_judge.specs.declared.CheckFault.TheVariants as fault
use Rattle.bz_judge.specs.LeafTests.{leaf_tests}
use Rattle.bz_judge.specs.PointTests.{Tests, point_tests}
use Rattle.bz_judge.specs.RayTests.{ray_tests}
use Rattle.bz_judge.specs.ValueTests.{costs_tests, value_tests}
use Rattle.bz_judge.specs.WideLists.{cut_sums}

-- ---- the cuts
-- the fault of cut i
abbrev pub fault_of_cut : ℕ → CutFault → CheckFault
fault_of_cut i of_cut.Invalid = fault.Cut i
fault_of_cut i of_cut.Wide = fault.Wide cut_sums i

-- a cut by its number, and all cuts
abbrev pub numbered_cut_tests : Model → List ℕ → ℕ × Cut → Tests
numbered_cut_tests m part e = answered (fault_of_cut e.0) (cut_tests m part e.1)

abbrev pub cuts_tests : Model → List ℕ → List Cut → Tests
cuts_tests m part cuts = each_of (numbered_cut_tests m part) (enumerate_from 0 cuts)

-- ---- the tree
-- the leaf at a node holds over its sides, and is as `Bounds` says
abbrev pub tip_tests : Model → List ℕ → (Leaf → Type 0) → List Ineq → ℕ → Leaf → Tests
tip_tests m part Bounds sides node leaf = leaf_tests m part sides node leaf ++ test (fault.Leaf node) (Bounds leaf) ∷ []

-- the split at a node is one of an integer column, into two sides that meet
abbrev pub split_tests : Model → List ℕ → ℕ → ℕ → ℤ → ℤ → Tests
split_tests m part node position left right =
    test (fault.Cover node) (IsSplitOf m part (integer_at m part position) position left right) ∷ []

-- A tree over its box, the first of its nodes being node `node`: a split, and then its two sides in their boxes.
abbrev pub tree_tests : Model → List ℕ → List Cut → (Leaf → Type 0) → Box → ℕ → Tree → Tests
tree_tests m part cuts Bounds box node (Tree.tip leaf) = tip_tests m part Bounds (sides_of m part box cuts) node leaf
tree_tests m part cuts Bounds box node (Tree.fork position left right below above) =
    split_tests m part node position left right
    ++ tree_tests m part cuts Bounds (with_upper (integer_at m part position) left box) (node + 1) below
    ++ tree_tests m part cuts Bounds (with_lower (integer_at m part position) right box)
    (node + 1 + length (preorder below)) above

-- ---- the whole certificate, over the box of the whole model and the tree of its nodes
-- the parts are a feasible point, their blocks cost at most their etas, and the value is the point's
abbrev pub value_of_point_tests : Model → List ℕ → Box → Parts → ℤ → Tests
value_of_point_tests m part root parts value =
    test fault.Shape (HasShape m part parts)
    ∷ point_tests m part root parts
    ++ costs_tests m part parts.master parts.blocks
    ++ value_tests m part parts.master value

-- the cuts are valid, and the tree holds over the box, each leaf as `Bounds` says
abbrev pub bound_tests : Model → List ℕ → List Cut → (Leaf → Type 0) → Box → Tree → Tests
bound_tests m part cuts Bounds root tree = cuts_tests m part cuts ++ tree_tests m part cuts Bounds root 0 tree

abbrev pub optimal_tests : Model → List ℕ → Box → Tree → Parts → Certificate → Tests
optimal_tests m part root tree parts c =
    value_of_point_tests m part root parts c.value
    ++ cuts_tests m part c.cuts
    ++ tree_tests m part c.cuts (Reaches c.value parts.master.den) root 0 tree

abbrev pub infeasible_tests : Model → List ℕ → Box → Tree → Certificate → Tests
infeasible_tests m part root tree c = bound_tests m part c.cuts IsEmpty root tree

-- the lists of a point and a direction fit the model's parts
abbrev pub HasRayShape : Model → List ℕ → Parts → List ℤ → Type 0
HasRayShape m part parts ray = HasPointShape m part parts × (length ray ≡ length m.columns)

abbrev pub unbounded_tests : Model → List ℕ → Box → Parts → Certificate → Tests
unbounded_tests m part root parts c =
    test fault.Shape (HasRayShape m part parts c.ray)
    ∷ point_tests m part root parts
    ++ ray_tests m c.ray

abbrev pub tests_as : Model → List ℕ → Box → Tree → Certificate → Verdict → Option Parts → Tests
tests_as m part root tree c Optimal (Some parts) = optimal_tests m part root tree parts c
tests_as m part root tree c Optimal None = test fault.Shape ⊥ ∷ []
tests_as m part root tree c Infeasible parts = infeasible_tests m part root tree c
tests_as m part root tree c Unbounded (Some parts) = unbounded_tests m part root parts c
tests_as m part root tree c Unbounded None = test fault.Shape ⊥ ∷ []

abbrev pub check_tests : Model → List ℕ → Box → Tree → Certificate → Tests
check_tests m part root tree c = tests_as m part root tree c c.verdict c.parts

-- the nodes are those of the tree, where the verdict has one
abbrev pub HasTree : Certificate → Verdict → Tree → Type 0
HasTree c Optimal tree = IsTreeOf c.tree tree
HasTree c Infeasible tree = IsTreeOf c.tree tree
HasTree c Unbounded tree = Unit {0}

-- The certificate is refused with the fault: some test fails, and the first that does answers it.
pub record IsCheckFault (m : Model) (part : List ℕ) (c : Certificate) (f : CheckFault) : Type 0 where
  pub root : Box
  pub is_root : IsRootBox m root
  pub tree : Tree
  pub is_tree : HasTree c c.verdict tree
  pub first : IsFirstFault (check_tests m part root tree c) f
