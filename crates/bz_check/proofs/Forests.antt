-- Trees over their boxes, one behind another: what a leaf and a split leave of them.
use Rattle.std.proofs.Common.{◌≡◌, refl, sym, ◌∙◌, ap, subst, ℕ, suc, ◌+◌, ◌⊎◌, inl, inr, List, [], ◌∷◌, ◌++◌, length, arith, ℤ, append_assoc, append-nil, length-append}
use Rattle.std.specs.List.{flat_map}
use Rattle.bz_model.specs.declared.Model.{Model}
use Rattle.bz_cut.specs.declared.Cut.{Cut}
use Rattle.bz_first.specs.Tests.{AllHold, IsFirstFault, test}
use Rattle.bz_first.proofs.TestLemmas.{all_joined, fault_behind, fault_in_front}
use Rattle.bz_tree.specs.declared.Leaf.{Leaf}
use Rattle.bz_tree.specs.declared.TreeNode.{TreeNode}
use Rattle.bz_tree.specs.Boxes.{Box}
use Rattle.bz_tree.specs.Leaves.{sides_of}
use Rattle.bz_tree.specs.Trees.{IsSplitOf, IsTreeOf, Tree, preorder, with_lower, with_upper}
use Rattle.bz_judge.specs.declared.CheckFault.{CheckFault}
use Rattle.bz_judge.specs.declared.CheckFault.TheVariants as fault
use Rattle.bz_check.specs.declared.open_splits.Frame.{Frame}
use Rattle.bz_judge.specs.PointTests.{Tests}
use Rattle.bz_tree.specs.Integers.{integer_at}
use Rattle.bz_check.specs.CheckTests.{tip_tests}
use Rattle.bz_check.specs.CheckTests.{tree_tests}
use Rattle.bz_check.specs.Walks.{Leads, Stands, forest_tests, pending}

-- ---- tests that tell what others do
leads_same : (some more whole : Tests) → some ≡ more → Leads some whole → Leads more whole
leads_same some more whole e h = subst (λ (ts : Tests). Leads ts whole) e h

leads_past : (xs ys whole : Tests) → AllHold xs → Leads (xs ++ ys) whole → Leads ys whole
leads_past xs ys whole a h = record {
  all = λ g. h.all (all_joined xs ys a g);
  first = λ f g. h.first f (fault_behind xs ys f a g);
}

-- ---- the start and the end
pub stands_first : (m : Model) (part : List ℕ) (cuts : List Cut) (Bounds : Leaf → Type 0) (root : Box) (tree : Tree) (box : Box) (frames : List Frame) (nodes : List TreeNode) → box ≡ root → frames ≡ [] → IsTreeOf nodes tree → Stands m part cuts Bounds root tree 0 box frames nodes
stands_first m part cuts Bounds root tree box frames nodes b none h = record {
  boxes = root ∷ [];
  are_boxes = inr (rw (b, none) refl);
  trees = tree ∷ [];
  count = refl;
  nodes = h ∙ sym (append-nil (preorder tree));
  leads = leads_same (tree_tests m part cuts Bounds root 0 tree) (tree_tests m part cuts Bounds root 0 tree ++ []) (tree_tests m part cuts Bounds root 0 tree) (sym (append-nil (tree_tests m part cuts Bounds root 0 tree))) (record { all = λ a. a; first = λ f h. h });
}

no_trees : (trees : List Tree) → [] ≡ flat_map preorder trees → trees ≡ []
no_trees [] e = refl
no_trees (Tree.tip leaf ∷ trees) e = absurd cc
no_trees (Tree.fork p l r below above ∷ trees) e = absurd cc

no_boxes : (boxes : List Box) (trees : List Tree) → length trees ≡ length boxes → trees ≡ [] → boxes ≡ []
no_boxes [] trees l e = refl
no_boxes (box ∷ boxes) [] l e = absurd (omega arith)
no_boxes (box ∷ boxes) (tree ∷ trees) l e = absurd cc

pub stands_last : (m : Model) (part : List ℕ) (cuts : List Cut) (Bounds : Leaf → Type 0) (root : Box) (tree : Tree) (node : ℕ) (box : Box) (frames : List Frame) → Stands m part cuts Bounds root tree node box frames [] → AllHold (tree_tests m part cuts Bounds root 0 tree)
stands_last m part cuts Bounds root tree node box frames s =
    let none : s.boxes ≡ [] = no_boxes s.boxes s.trees s.count (no_trees s.trees s.nodes) in
    s.leads.all (subst (λ (boxes : List Box). AllHold (forest_tests m part cuts Bounds node boxes s.trees)) (sym none) tt)

-- ---- the tree of the next node, and the trees behind it
record Front (m : Model) (part : List ℕ) (cuts : List Cut) (Bounds : Leaf → Type 0) (root : Box) (tree : Tree) (node : ℕ) (box : Box) (frames : List Frame) (nodes : List TreeNode) : Type 0 where
  here : Tree
  behind : List Tree
  count : length behind ≡ length (pending frames box)
  are_nodes : nodes ≡ preorder here ++ flat_map preorder behind
  leads : Leads (tree_tests m part cuts Bounds box node here ++ forest_tests m part cuts Bounds (node + length (preorder here)) (pending frames box) behind) (tree_tests m part cuts Bounds root 0 tree)

front_of : (m : Model) (part : List ℕ) (cuts : List Cut) (Bounds : Leaf → Type 0) (root : Box) (tree : Tree) (node : ℕ) (box : Box) (frames : List Frame) (n : TreeNode) (rest : List TreeNode) (boxes : List Box) (trees : List Tree) → (boxes ≡ []) ⊎ (boxes ≡ box ∷ pending frames box) → length trees ≡ length boxes → n ∷ rest ≡ flat_map preorder trees → Leads (forest_tests m part cuts Bounds node boxes trees) (tree_tests m part cuts Bounds root 0 tree) → Front m part cuts Bounds root tree node box frames (n ∷ rest)
front_of m part cuts Bounds root tree node box frames n rest boxes [] at l e h = absurd cc
front_of m part cuts Bounds root tree node box frames n rest boxes (t ∷ ts) (inl none) l e h = absurd (let empty : length boxes ≡ 0 = ap length none in omega arith)
front_of m part cuts Bounds root tree node box frames n rest boxes (t ∷ ts) (inr are) l e h = record {
  here = t;
  behind = ts;
  count = let both : length boxes ≡ length (box ∷ pending frames box) = ap length are in omega arith;
  are_nodes = e;
  leads = subst (λ (bs : List Box). Leads (forest_tests m part cuts Bounds node bs (t ∷ ts)) (tree_tests m part cuts Bounds root 0 tree)) are h;
}

front : (m : Model) (part : List ℕ) (cuts : List Cut) (Bounds : Leaf → Type 0) (root : Box) (tree : Tree) (node : ℕ) (box : Box) (frames : List Frame) (n : TreeNode) (rest : List TreeNode) → Stands m part cuts Bounds root tree node box frames (n ∷ rest) → Front m part cuts Bounds root tree node box frames (n ∷ rest)
front m part cuts Bounds root tree node box frames n rest s = front_of m part cuts Bounds root tree node box frames n rest s.boxes s.trees s.are_boxes s.count s.nodes s.leads

-- ---- a leaf
record LeafFront (m : Model) (part : List ℕ) (cuts : List Cut) (Bounds : Leaf → Type 0) (root : Box) (tree : Tree) (node : ℕ) (box : Box) (frames : List Frame) (leaf : Leaf) (rest : List TreeNode) : Type 0 where
  behind : List Tree
  count : length behind ≡ length (pending frames box)
  are_nodes : rest ≡ flat_map preorder behind
  leads : Leads (tip_tests m part Bounds (sides_of m part box cuts) node leaf ++ forest_tests m part cuts Bounds (node + 1) (pending frames box) behind) (tree_tests m part cuts Bounds root 0 tree)

leaf_front_of : (m : Model) (part : List ℕ) (cuts : List Cut) (Bounds : Leaf → Type 0) (root : Box) (tree : Tree) (node : ℕ) (box : Box) (frames : List Frame) (leaf : Leaf) (rest : List TreeNode) (here : Tree) (behind : List Tree) → length behind ≡ length (pending frames box) → TreeNode.Leaf leaf ∷ rest ≡ preorder here ++ flat_map preorder behind → Leads (tree_tests m part cuts Bounds box node here ++ forest_tests m part cuts Bounds (node + length (preorder here)) (pending frames box) behind) (tree_tests m part cuts Bounds root 0 tree) → LeafFront m part cuts Bounds root tree node box frames leaf rest
leaf_front_of m part cuts Bounds root tree node box frames leaf rest (Tree.tip end) behind l e h =
    let same : end ≡ leaf = cc in
    record {
      behind = behind;
      count = l;
      are_nodes = cc;
      leads = subst (λ (x : Leaf). Leads (tip_tests m part Bounds (sides_of m part box cuts) node x ++ forest_tests m part cuts Bounds (node + 1) (pending frames box) behind) (tree_tests m part cuts Bounds root 0 tree)) same h;
    }
leaf_front_of m part cuts Bounds root tree node box frames leaf rest (Tree.fork p l r below above) behind n e h = absurd cc

leaf_front : (m : Model) (part : List ℕ) (cuts : List Cut) (Bounds : Leaf → Type 0) (root : Box) (tree : Tree) (node : ℕ) (box : Box) (frames : List Frame) (leaf : Leaf) (rest : List TreeNode) → Stands m part cuts Bounds root tree node box frames (TreeNode.Leaf leaf ∷ rest) → LeafFront m part cuts Bounds root tree node box frames leaf rest
leaf_front m part cuts Bounds root tree node box frames leaf rest s =
    let f = front m part cuts Bounds root tree node box frames (TreeNode.Leaf leaf) rest s in
    leaf_front_of m part cuts Bounds root tree node box frames leaf rest f.here f.behind f.count f.are_nodes f.leads

pub leaf_fault : (m : Model) (part : List ℕ) (cuts : List Cut) (Bounds : Leaf → Type 0) (root : Box) (tree : Tree) (node : ℕ) (box : Box) (frames : List Frame) (leaf : Leaf) (rest : List TreeNode) (f : CheckFault) → Stands m part cuts Bounds root tree node box frames (TreeNode.Leaf leaf ∷ rest) → IsFirstFault (tip_tests m part Bounds (sides_of m part box cuts) node leaf) f → IsFirstFault (tree_tests m part cuts Bounds root 0 tree) f
leaf_fault m part cuts Bounds root tree node box frames leaf rest f s h =
    let g = leaf_front m part cuts Bounds root tree node box frames leaf rest s in
    g.leads.first f (fault_in_front (tip_tests m part Bounds (sides_of m part box cuts) node leaf) (forest_tests m part cuts Bounds (node + 1) (pending frames box) g.behind) f h)

pub leaf_done : (m : Model) (part : List ℕ) (cuts : List Cut) (Bounds : Leaf → Type 0) (root : Box) (tree : Tree) (node : ℕ) (box box' : Box) (frames frames' : List Frame) (leaf : Leaf) (rest : List TreeNode) → Stands m part cuts Bounds root tree node box frames (TreeNode.Leaf leaf ∷ rest) → AllHold (tip_tests m part Bounds (sides_of m part box cuts) node leaf) → (pending frames box ≡ []) ⊎ (pending frames box ≡ box' ∷ pending frames' box') → Stands m part cuts Bounds root tree (node + 1) box' frames' rest
leaf_done m part cuts Bounds root tree node box box' frames frames' leaf rest s h at =
    let g = leaf_front m part cuts Bounds root tree node box frames leaf rest s in
    record {
      boxes = pending frames box;
      are_boxes = at;
      trees = g.behind;
      count = g.count;
      nodes = g.are_nodes;
      leads = leads_past (tip_tests m part Bounds (sides_of m part box cuts) node leaf) (forest_tests m part cuts Bounds (node + 1) (pending frames box) g.behind) (tree_tests m part cuts Bounds root 0 tree) h g.leads;
    }

-- ---- a split
record SplitFront (m : Model) (part : List ℕ) (cuts : List Cut) (Bounds : Leaf → Type 0) (root : Box) (tree : Tree) (node : ℕ) (box : Box) (frames : List Frame) (position : ℕ) (left right : ℤ) (rest : List TreeNode) : Type 0 where
  trees : List Tree
  count : length trees ≡ length (with_upper (integer_at m part position) left box ∷ with_lower (integer_at m part position) right box ∷ pending frames box)
  are_nodes : rest ≡ flat_map preorder trees
  leads : Leads (test (fault.Cover node) (IsSplitOf m part (integer_at m part position) position left right) ∷ forest_tests m part cuts Bounds (node + 1) (with_upper (integer_at m part position) left box ∷ with_lower (integer_at m part position) right box ∷ pending frames box) trees) (tree_tests m part cuts Bounds root 0 tree)

split_front_of : (m : Model) (part : List ℕ) (cuts : List Cut) (Bounds : Leaf → Type 0) (root : Box) (tree : Tree) (node : ℕ) (box : Box) (frames : List Frame) (position : ℕ) (left right : ℤ) (rest : List TreeNode) (here : Tree) (behind : List Tree) → length behind ≡ length (pending frames box) → TreeNode.Split position left right ∷ rest ≡ preorder here ++ flat_map preorder behind → Leads (tree_tests m part cuts Bounds box node here ++ forest_tests m part cuts Bounds (node + length (preorder here)) (pending frames box) behind) (tree_tests m part cuts Bounds root 0 tree) → SplitFront m part cuts Bounds root tree node box frames position left right rest
split_front_of m part cuts Bounds root tree node box frames position left right rest (Tree.tip end) behind n e h = absurd cc
split_front_of m part cuts Bounds root tree node box frames position left right rest (Tree.fork p l r below above) behind n e h =
    let place : p ≡ position = cc in
    let less : l ≡ left = cc in
    let more : r ≡ right = cc in
    let left_box : Box = with_upper (integer_at m part position) left box in
    let right_box : Box = with_lower (integer_at m part position) right box in
    let first : Tests = tree_tests m part cuts Bounds left_box (node + 1) below in
    let second : Tests = tree_tests m part cuts Bounds right_box (node + 1 + length (preorder below)) above in
    let same : Leads (tree_tests m part cuts Bounds box node (Tree.fork position left right below above) ++ forest_tests m part cuts Bounds (node + length (preorder (Tree.fork position left right below above))) (pending frames box) behind) (tree_tests m part cuts Bounds root 0 tree) =
    subst (λ (t : Tree). Leads (tree_tests m part cuts Bounds box node t ++ forest_tests m part cuts Bounds (node + length (preorder t)) (pending frames box) behind) (tree_tests m part cuts Bounds root 0 tree)) (λ i. Tree.fork (place i) (less i) (more i) below above) h in
    let both : length (preorder below ++ preorder above) ≡ length (preorder below) + length (preorder above) = length-append (preorder below) (preorder above) in
    let number : node + length (preorder (Tree.fork position left right below above)) ≡ node + 1 + length (preorder below) + length (preorder above) = omega arith in
    let last : ℕ → Tests = λ k. forest_tests m part cuts Bounds k (pending frames box) behind in
    let moved : (test (fault.Cover node) (IsSplitOf m part (integer_at m part position) position left right) ∷ first ++ second) ++ last (node + length (preorder (Tree.fork position left right below above))) ≡ test (fault.Cover node) (IsSplitOf m part (integer_at m part position) position left right) ∷ first ++ (second ++ last (node + 1 + length (preorder below) + length (preorder above))) =
    ap (λ (k : ℕ). (test (fault.Cover node) (IsSplitOf m part (integer_at m part position) position left right) ∷ first ++ second) ++ last k) number
    ∙ ap (λ (ts : Tests). test (fault.Cover node) (IsSplitOf m part (integer_at m part position) position left right) ∷ ts) (append_assoc first second (last (node + 1 + length (preorder below) + length (preorder above)))) in
    let rest_is : rest ≡ (preorder below ++ preorder above) ++ flat_map preorder behind = cc in
    record {
      trees = below ∷ above ∷ behind;
      count = ap (λ (k : ℕ). suc (suc k)) n;
      are_nodes = rest_is ∙ append_assoc (preorder below) (preorder above) (flat_map preorder behind);
      leads = leads_same _ _ (tree_tests m part cuts Bounds root 0 tree) moved same;
    }

split_front : (m : Model) (part : List ℕ) (cuts : List Cut) (Bounds : Leaf → Type 0) (root : Box) (tree : Tree) (node : ℕ) (box : Box) (frames : List Frame) (position : ℕ) (left right : ℤ) (rest : List TreeNode) → Stands m part cuts Bounds root tree node box frames (TreeNode.Split position left right ∷ rest) → SplitFront m part cuts Bounds root tree node box frames position left right rest
split_front m part cuts Bounds root tree node box frames position left right rest s =
    let f = front m part cuts Bounds root tree node box frames (TreeNode.Split position left right) rest s in
    split_front_of m part cuts Bounds root tree node box frames position left right rest f.here f.behind f.count f.are_nodes f.leads

pub split_fault : (m : Model) (part : List ℕ) (cuts : List Cut) (Bounds : Leaf → Type 0) (root : Box) (tree : Tree) (node : ℕ) (box : Box) (frames : List Frame) (position : ℕ) (left right : ℤ) (rest : List TreeNode) (f : CheckFault) → Stands m part cuts Bounds root tree node box frames (TreeNode.Split position left right ∷ rest) → IsFirstFault (test (fault.Cover node) (IsSplitOf m part (integer_at m part position) position left right) ∷ []) f → IsFirstFault (tree_tests m part cuts Bounds root 0 tree) f
split_fault m part cuts Bounds root tree node box frames position left right rest f s h =
    let g = split_front m part cuts Bounds root tree node box frames position left right rest s in
    g.leads.first f (fault_in_front (test (fault.Cover node) (IsSplitOf m part (integer_at m part position) position left right) ∷ []) (forest_tests m part cuts Bounds (node + 1) (with_upper (integer_at m part position) left box ∷ with_lower (integer_at m part position) right box ∷ pending frames box) g.trees) f h)

pub split_done : (m : Model) (part : List ℕ) (cuts : List Cut) (Bounds : Leaf → Type 0) (root : Box) (tree : Tree) (node : ℕ) (box box' : Box) (frames frames' : List Frame) (position : ℕ) (left right : ℤ) (rest : List TreeNode) → Stands m part cuts Bounds root tree node box frames (TreeNode.Split position left right ∷ rest) → IsSplitOf m part (integer_at m part position) position left right → box' ≡ with_upper (integer_at m part position) left box → pending frames' box' ≡ with_lower (integer_at m part position) right box ∷ pending frames box → Stands m part cuts Bounds root tree (node + 1) box' frames' rest
split_done m part cuts Bounds root tree node box box' frames frames' position left right rest s split b at =
    let g = split_front m part cuts Bounds root tree node box frames position left right rest s in
    record {
      boxes = with_upper (integer_at m part position) left box ∷ with_lower (integer_at m part position) right box ∷ pending frames box;
      are_boxes = inr (rw (at, b) refl);
      trees = g.trees;
      count = g.count;
      nodes = g.are_nodes;
      leads = leads_past (test (fault.Cover node) (IsSplitOf m part (integer_at m part position) position left right) ∷ []) (forest_tests m part cuts Bounds (node + 1) (with_upper (integer_at m part position) left box ∷ with_lower (integer_at m part position) right box ∷ pending frames box) g.trees) (tree_tests m part cuts Bounds root 0 tree) (split, tt) g.leads;
    }
