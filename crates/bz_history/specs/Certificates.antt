-- What a search without an open node has to show: its tree, its cuts, and the parts of the best post.
use Rattle.std.specs.Prelude.{ℕ, suc, ◌≡◌, ◌≤◌, ℤ, pos, ◌+ℤ◌, false, List, [], Some, None}
use Rattle.std.specs.List.{list_any}
use Rattle.bz_model.specs.declared.Master.{Master}
use Rattle.bz_model.specs.Decomposed.{IsDecomposed}
use Rattle.bz_model.specs.Splits.{Decomposition}
use Rattle.bz_cut.specs.declared.Cut.{Cut}
use Rattle.bz_cut.specs.declared.Mode.TheVariants as mode
use Rattle.bz_tree.specs.declared.Leaf.{Leaf}
use Rattle.bz_tree.specs.Trees.{Tree, preorder}
use Rattle.bz_cert.specs.declared.records.Certificate.{Certificate}
use Rattle.bz_cert.specs.declared.records.Verdict.TheVariants as verdict
use Rattle.bz_cert.specs.Fits.{Fits}
use Rattle.bz_cert.specs.Passing.{Passes}
use Rattle.bz_cert.specs.Shapes.{IsShaped}
use Rattle.bz_event.specs.declared.events.Entry.{Entry}
use Rattle.bz_event.specs.declared.events.How.TheVariants as how
use Rattle.bz_event.specs.Floors.{placed}
use Rattle.bz_event.specs.Nodes.{value_of}
use Rattle.bz_history.specs.declared.state.Closing.{Closing}
use Rattle.bz_history.specs.declared.state.FallingRay.{FallingRay}
use Rattle.bz_history.specs.declared.state.Node.{Node}
use Rattle.bz_history.specs.declared.state.Post.{Post}
use Rattle.bz_history.specs.declared.state.Region.{Region}
use Rattle.bz_history.specs.Budgets.{greatest_budget}
use Rattle.bz_history.specs.Finished.{completions, parts_of}
use Rattle.bz_history.specs.Histories.{IsReplay}
use Rattle.bz_history.specs.States.{State, is_open, mode_of}
use Rattle.bz_history.specs.Steps.{IsAt, IsBest}

-- node number n is closed by the leaf
pub record IsTipAt (nodes : List Node) (n : ℕ) (leaf : Leaf) : Type 0 where
  pub node : Node
  pub is_node : IsAt nodes n node
  pub closing : Closing
  pub closed : node.closing ≡ Some closing
  pub front : ℕ
  pub by_leaf : closing.how ≡ how.Leaf front leaf

-- node number n is split at the position; its sides are the nodes `kids` and the next one
pub record IsForkAt (nodes : List Node) (n position : ℕ) (left right : ℤ) (kids : ℕ) : Type 0 where
  pub node : Node
  pub is_node : IsAt nodes n node
  pub closing : Closing
  pub closed : node.closing ≡ Some closing
  pub front : ℕ
  pub basis : List ℕ
  pub by_split : closing.how ≡ how.Split front basis position left
  pub next : right ≡ left +ℤ pos 1
  pub kids_are : closing.kids ≡ kids

-- the tree is the one below node number n
abbrev pub IsTreeAt : List Node → ℕ → Tree → Type 0
IsTreeAt nodes n (Tree.tip leaf) = IsTipAt nodes n leaf
IsTreeAt nodes n (Tree.fork position left right below above) =
    (kids : ℕ) × IsForkAt nodes n position left right kids × IsTreeAt nodes kids below × IsTreeAt nodes (suc kids) above

-- ---- the certificate of a search without an open node, by its verdict
-- it has the best post's parts and value, the cuts of the pool and the tree
pub record IsOptimalCertificate (d : Decomposition) (cuts : List Cut) (post : Post) (tree : Tree) (c : Certificate)
    : Type 0 where
  pub verdict : c.verdict ≡ verdict.Optimal
  pub parts : c.parts ≡ Some (parts_of post)
  pub value : c.value ≡ value_of d.model d.part post.point
  pub no_ray : c.ray ≡ []
  pub cuts_are : c.cuts ≡ cuts
  pub tree_is : c.tree ≡ preorder tree

-- it has the cuts of the pool and the tree
pub record IsInfeasibleCertificate (cuts : List Cut) (tree : Tree) (c : Certificate) : Type 0 where
  pub verdict : c.verdict ≡ verdict.Infeasible
  pub no_parts : c.parts ≡ None
  pub no_value : c.value ≡ pos 0
  pub no_ray : c.ray ≡ []
  pub cuts_are : c.cuts ≡ cuts
  pub tree_is : c.tree ≡ preorder tree

-- the point of a post without its etas
abbrev pub without_etas : Master → Master
without_etas point = record {
  den = point.den;
  x = point.x;
  eta = [];
  den_narrow = point.den_narrow;
  x_narrow = point.x_narrow;
  eta_narrow = tt;
}

-- it has the best post's parts without etas, and the direction over the model's columns
pub record IsUnboundedCertificate (d : Decomposition) (post : Post) (ray : FallingRay) (c : Certificate) : Type 0 where
  pub verdict : c.verdict ≡ verdict.Unbounded
  pub parts : c.parts ≡ Some (record { master = without_etas post.point; blocks = completions post.fills })
  pub no_value : c.value ≡ pos 0
  pub ray_is : c.ray ≡ placed d.part ray.block ray.d
  pub no_cuts : c.cuts ≡ []
  pub no_tree : c.tree ≡ []

-- There is a tree below the first node where no node is open. Each certificate of the search, by its verdict, passes and
-- fits.
pub record CertificatesPass (d : Decomposition) (t : State) : Type 0 where
  pub has_tree : list_any is_open t.nodes ≡ false → (tree : Tree) × IsTreeAt t.nodes 0 tree
  pub optimal : mode_of t ≡ mode.Cost → (post : Post) → IsBest t post → (tree : Tree) → IsTreeAt t.nodes 0 tree →
      (c : Certificate) → IsOptimalCertificate d t.cuts post tree c → Passes d.model d.part c × Fits d.model d.part c
  pub infeasible : t.best ≡ None → (tree : Tree) → IsTreeAt t.nodes 0 tree →
      (c : Certificate) → IsInfeasibleCertificate t.cuts tree c → Passes d.model d.part c × Fits d.model d.part c
  pub unbounded : (post : Post) → IsBest t post → (ray : FallingRay) → t.ray ≡ Some ray →
      (c : Certificate) → IsUnboundedCertificate d post ray c → Passes d.model d.part c × Fits d.model d.part c

abbrev pub CertificatesAreRight : Type 0
CertificatesAreRight =
    (d : Decomposition) (budget : ℕ) (root : Region) (es : List Entry) (t : State) → IsDecomposed d.model d.part →
    IsReplay d budget root es t → CertificatesPass d t

-- Each certificate of the search, by its verdict, has what that needs, nothing else, and no wide number; its cuts and nodes are
-- few enough to be written.
pub record CertificatesAreShaped (d : Decomposition) (t : State) : Type 0 where
  pub optimal : mode_of t ≡ mode.Cost → (post : Post) → IsBest t post → (tree : Tree) → IsTreeAt t.nodes 0 tree →
      (c : Certificate) → IsOptimalCertificate d t.cuts post tree c → IsShaped c
  pub infeasible : (tree : Tree) → IsTreeAt t.nodes 0 tree →
      (c : Certificate) → IsInfeasibleCertificate t.cuts tree c → IsShaped c
  pub unbounded : (post : Post) → (ray : FallingRay) → t.ray ≡ Some ray →
      (c : Certificate) → IsUnboundedCertificate d post ray c → IsShaped c

abbrev pub CertificatesHaveTheirShape : Type 0
CertificatesHaveTheirShape =
    (d : Decomposition) (budget : ℕ) (root : Region) (es : List Entry) (t : State) → IsDecomposed d.model d.part →
    budget ≤ greatest_budget → IsReplay d budget root es t → CertificatesAreShaped d t
