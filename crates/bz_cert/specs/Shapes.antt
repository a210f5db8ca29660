-- What a certificate has by its verdict: a record with other lists than its verdict writes is no certificate.
use Rattle.std.specs.Prelude.{ℤ, pos, ◌≡◌, ◌≤◌, List, [], length, Option, Some, None}
use Rattle.std.specs.List.{AllByRecursion}
use Rattle.bz_algebra.specs.Numbers.{IsNarrow}
use Rattle.bz_model.specs.declared.Parts.{Parts}
use Rattle.bz_cut.specs.declared.Cut.{Cut}
use Rattle.bz_tree.specs.declared.TreeNode.{TreeNode}
use Rattle.bz_tree.specs.Trees.{Tree, IsTreeOf}
use Rattle.bz_cert.specs.declared.records.Certificate.{Certificate}
use Rattle.bz_cert.specs.declared.records.Verdict.{Verdict}
use Rattle.bz_cert.specs.declared.records.Verdict.TheVariants.{Optimal, Infeasible, Unbounded}

-- neither number of a split is wide
abbrev pub IsNarrowNode : TreeNode → Type 0
IsNarrowNode (TreeNode.Split position left right) = IsNarrow left × IsNarrow right
IsNarrowNode (TreeNode.Leaf leaf) = Unit {0}

-- the parts that a certificate of the verdict has: none where no point is feasible, and no etas where it is unbounded
abbrev pub HasPartsOf : Verdict → Option Parts → Type 0
HasPartsOf Optimal None = ⊥
HasPartsOf Optimal (Some parts) = Unit {0}
HasPartsOf Infeasible None = Unit {0}
HasPartsOf Infeasible (Some parts) = ⊥
HasPartsOf Unbounded None = ⊥
HasPartsOf Unbounded (Some parts) = parts.master.eta ≡ []

-- the value, which an optimum alone has
abbrev pub HasValueOf : Verdict → ℤ → Type 0
HasValueOf Optimal value = IsNarrow value
HasValueOf Infeasible value = value ≡ pos 0
HasValueOf Unbounded value = value ≡ pos 0

-- the direction, which an unbounded model alone has
abbrev pub HasRayOf : Verdict → List ℤ → Type 0
HasRayOf Optimal ray = ray ≡ []
HasRayOf Infeasible ray = ray ≡ []
HasRayOf Unbounded ray = AllByRecursion IsNarrow ray

-- at most 65,535 cuts
abbrev pub AreCuts : List Cut → Type 0
AreCuts cuts = length cuts ≤ 65535

-- the nodes of one whole tree, at most 65,535, without wide numbers
pub record AreNodes (nodes : List TreeNode) : Type 0 where
  pub few : length nodes ≤ 65535
  pub narrow : AllByRecursion IsNarrowNode nodes
  pub tree : Tree
  pub is_tree : IsTreeOf nodes tree

-- the cuts, which an unbounded model's certificate hasn't
abbrev pub HasCutsOf : Verdict → List Cut → Type 0
HasCutsOf Optimal cuts = AreCuts cuts
HasCutsOf Infeasible cuts = AreCuts cuts
HasCutsOf Unbounded cuts = cuts ≡ []

-- the tree, which an unbounded model's certificate hasn't
abbrev pub HasTreeOf : Verdict → List TreeNode → Type 0
HasTreeOf Optimal nodes = AreNodes nodes
HasTreeOf Infeasible nodes = AreNodes nodes
HasTreeOf Unbounded nodes = nodes ≡ []

-- the certificate has what its verdict needs, nothing else, and no wide number
pub record IsShaped (c : Certificate) : Type 0 where
  pub parts : HasPartsOf c.verdict c.parts
  pub value : HasValueOf c.verdict c.value
  pub ray : HasRayOf c.verdict c.ray
  pub cuts : HasCutsOf c.verdict c.cuts
  pub tree : HasTreeOf c.verdict c.tree
