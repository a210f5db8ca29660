-- The walk over closed nodes.
use Rattle.std.proofs.Common.{◌≡◌, refl, sym, ◌∙◌, ap, subst, ℕ, zero, suc, ◌+◌, ◌-◌, ◌*◌, ◌^◌, ◌<◌, ◌≤◌, List, [], ◌∷◌, ◌++◌, length, arith, append_assoc, append-nil}
use Rattle.std.specs.Prelude.{Some}
use Rattle.std.specs.List.{AllByRecursion}
use Rattle.std.proofs.Math.Nat.{pow-suc}
use Rattle.bz_model.proofs.MeetingParts.{all_append}
use Rattle.bz_tree.specs.declared.TreeNode.{TreeNode}
use Rattle.bz_tree.specs.Trees.{Tree, preorder}
use Rattle.bz_event.specs.declared.events.How.{How}
use Rattle.bz_event.specs.declared.events.How.TheVariants as how
use Rattle.bz_history.specs.declared.state.Closing.{Closing}
use Rattle.bz_history.specs.declared.state.Node.{Node}
use Rattle.bz_history.specs.Certificates.{IsForkAt, IsTipAt, IsTreeAt}
use Rattle.bz_history.specs.Steps.{IsAt}
use Rattle.bz_history.proofs.Lists.{at_one}
use Rattle.bz_certify.specs.Walks.{AreClosed, HasNext, IsClosedAt, IsClosingAt, IsEndOf, head_of, sides_from, sides_of}

-- ---- what is still to come
-- the rest is the nodes of the trees at the stacked numbers, those of the top one first
abbrev pub IsPending : List Node → List ℕ → List TreeNode → Type 0
IsPending nodes [] rest = rest ≡ []
IsPending nodes (n ∷ ns) rest = (tree : Tree) × (later : List TreeNode) × IsTreeAt nodes n tree × IsPending nodes ns later × (rest ≡ later ++ preorder tree)

-- the tree at the top, and the rest behind it
abbrev pub IsTop : List Node → List ℕ → ℕ → List TreeNode → Type 0
IsTop nodes ns n rest = (tree : Tree) × (later : List TreeNode) × IsTreeAt nodes n tree × IsPending nodes ns later × (rest ≡ preorder tree ++ later)

top_of : (nodes : List Node) (ns : List ℕ) (n : ℕ) (rest : List TreeNode) → IsPending nodes (ns ++ n ∷ []) rest → IsTop nodes ns n rest
top_of nodes [] n rest (tree, later, at, none, is) = (tree, [], at, refl, is ∙ ap (λ (l : List TreeNode). l ++ preorder tree) none ∙ sym (append-nil (preorder tree)))
top_of nodes (m ∷ ns) n rest (under, later, at, pending, is) = behind (top_of nodes ns n later pending)
  where
    behind : IsTop nodes ns n later → IsTop nodes (m ∷ ns) n rest
    behind (tree, before, at_top, below, above) = (
      tree,
      before ++ preorder under,
      at_top,
      (under, before, at, below, refl),
      is ∙ ap (λ (l : List TreeNode). l ++ preorder under) above ∙ append_assoc (preorder tree) before (preorder under),
    )

pending_more : (nodes : List Node) (ns : List ℕ) (n : ℕ) (tree : Tree) (later : List TreeNode) → IsTreeAt nodes n tree → IsPending nodes ns later → IsPending nodes (ns ++ n ∷ []) (preorder tree ++ later)
pending_more nodes [] n tree later at none = (tree, [], at, refl, ap (λ (l : List TreeNode). preorder tree ++ l) none ∙ append-nil (preorder tree))
pending_more nodes (m ∷ ns) n tree later at (under, before, at_under, pending, is) = (
  under,
  preorder tree ++ before,
  at_under,
  pending_more nodes ns n tree before at pending,
  ap (λ (l : List TreeNode). preorder tree ++ l) is ∙ sym (append_assoc (preorder tree) before (preorder under)),
)

-- ---- one node
-- what is to come behind a node of the tree
abbrev IsStep : List Node → List ℕ → Closing → List TreeNode → Type 0
IsStep nodes ns closing rest = (later : List TreeNode) × IsPending nodes (ns ++ sides_of closing) later × (rest ≡ head_of closing.how ∷ later)

-- a node's end is the one that is there
one_end : (nodes : List Node) (n : ℕ) (x y : Node) (a b : Closing) → IsAt nodes n x → IsAt nodes n y → x.closing ≡ Some a → y.closing ≡ Some b → a ≡ b
one_end nodes n x y a b at_x at_y is_a is_b =
    let same : x ≡ y = at_one nodes n x y at_x at_y in
    let both : Some a ≡ Some b = sym is_a ∙ ap (λ (z : Node). z.closing) same ∙ is_b in
    cc

tip_step : (nodes : List Node) (ns : List ℕ) (n : ℕ) (node : Node) (closing : Closing) (leaf : _) (later : List TreeNode) → IsAt nodes n node → node.closing ≡ Some closing → IsTipAt nodes n leaf → IsPending nodes ns later → IsStep nodes ns closing (TreeNode.Leaf leaf ∷ later)
tip_step nodes ns n node closing leaf later at is tip pending =
    let same : tip.closing ≡ closing = one_end nodes n tip.node node tip.closing closing tip.is_node at tip.closed is in
    let by_leaf : closing.how ≡ how.Leaf tip.front leaf = sym (ap (λ (c : Closing). c.how) same) ∙ tip.by_leaf in (
      later,
      subst (λ (h : How). IsPending nodes (ns ++ sides_from closing.kids h) later) (sym by_leaf) (subst (λ (l : List ℕ). IsPending nodes l later) (sym (append-nil ns)) pending),
      ap (λ (h : How). head_of h ∷ later) (sym by_leaf),
    )

fork_step : (nodes : List Node) (ns : List ℕ) (n : ℕ) (node : Node) (closing : Closing) (position : ℕ) (left right : _) (kids : ℕ) (a b : Tree) (later : List TreeNode) → IsAt nodes n node → node.closing ≡ Some closing → IsForkAt nodes n position left right kids → IsTreeAt nodes kids a → IsTreeAt nodes (suc kids) b → IsPending nodes ns later
    → IsStep nodes ns closing (TreeNode.Split position left right ∷ ((preorder a ++ preorder b) ++ later))
fork_step nodes ns n node closing position left right kids a b later at is fork at_a at_b pending =
    let same : fork.closing ≡ closing = one_end nodes n fork.node node fork.closing closing fork.is_node at fork.closed is in
    let by_split : closing.how ≡ how.Split fork.front fork.basis position left = sym (ap (λ (c : Closing). c.how) same) ∙ fork.by_split in
    let own : closing.kids ≡ kids = sym (ap (λ (c : Closing). c.kids) same) ∙ fork.kids_are in
    let right_one : IsPending nodes (ns ++ suc kids ∷ []) (preorder b ++ later) = pending_more nodes ns (suc kids) b later at_b pending in
    let both : IsPending nodes ((ns ++ suc kids ∷ []) ++ kids ∷ []) (preorder a ++ (preorder b ++ later)) = pending_more nodes (ns ++ suc kids ∷ []) kids a (preorder b ++ later) at_a right_one in
    let stacked : IsPending nodes (ns ++ suc kids ∷ kids ∷ []) (preorder a ++ (preorder b ++ later)) = subst (λ (l : List ℕ). IsPending nodes l (preorder a ++ (preorder b ++ later))) (append_assoc ns (suc kids ∷ []) (kids ∷ [])) both in (
      preorder a ++ (preorder b ++ later),
      subst (λ (h : How). IsPending nodes (ns ++ sides_from closing.kids h) (preorder a ++ (preorder b ++ later))) (sym by_split)
          (subst (λ (k : ℕ). IsPending nodes (ns ++ suc k ∷ k ∷ []) (preorder a ++ (preorder b ++ later))) (sym own) stacked),
      ap (λ (l : List TreeNode). TreeNode.Split position left right ∷ l) (append_assoc (preorder a) (preorder b) later)
          ∙ ap (λ (r : _). TreeNode.Split position left r ∷ (preorder a ++ (preorder b ++ later))) fork.next
          ∙ ap (λ (h : How). head_of h ∷ (preorder a ++ (preorder b ++ later))) (sym by_split),
    )

node_step : (nodes : List Node) (ns : List ℕ) (n : ℕ) (node : Node) (closing : Closing) (tree : Tree) (later : List TreeNode) → IsAt nodes n node → node.closing ≡ Some closing → IsTreeAt nodes n tree → IsPending nodes ns later → IsStep nodes ns closing (preorder tree ++ later)
node_step nodes ns n node closing (Tree.tip leaf) later at is tip pending = tip_step nodes ns n node closing leaf later at is tip pending
node_step nodes ns n node closing (Tree.fork position left right a b) later at is (kids, fork, at_a, at_b) pending = fork_step nodes ns n node closing position left right kids a b later at is fork at_a at_b pending

-- ---- the measure
-- a number weighs three times as much as the next one
abbrev pub weight : ℕ → List ℕ → ℕ
weight size [] = 0
weight size (n ∷ ns) = 3 ^ (size - n) + weight size ns

weight-append : (size : ℕ) (xs ys : List ℕ) → weight size (xs ++ ys) ≡ weight size xs + weight size ys
weight-append size [] ys = omega arith
weight-append size (x ∷ xs) ys =
    let rest : weight size (xs ++ ys) ≡ weight size xs + weight size ys = weight-append size xs ys in
    omega arith

pow_some : (n : ℕ) → 1 ≤ 3 ^ n
pow_some zero = omega arith
pow_some (suc n) =
    let rest : 1 ≤ 3 ^ n = pow_some n in
    let next : 3 ^ suc n ≡ 3 ^ n * 3 = pow-suc 3 n in
    omega arith

-- a later number weighs at most a third
pow_later : (a k : ℕ) → 3 * 3 ^ a ≤ 3 ^ (suc a + k)
pow_later a zero =
    let next : 3 ^ suc a ≡ 3 ^ a * 3 = pow-suc 3 a in
    let same : suc a + 0 ≡ suc a = omega arith in
    let power : 3 ^ (suc a + 0) ≡ 3 ^ suc a = ap (λ (n : ℕ). 3 ^ n) same in
    omega arith
pow_later a (suc k) =
    let rest : 3 * 3 ^ a ≤ 3 ^ (suc a + k) = pow_later a k in
    let same : suc a + suc k ≡ suc (suc a + k) = omega arith in
    let power : 3 ^ (suc a + suc k) ≡ 3 ^ suc (suc a + k) = ap (λ (n : ℕ). 3 ^ n) same in
    let next : 3 ^ suc (suc a + k) ≡ 3 ^ (suc a + k) * 3 = pow-suc 3 (suc a + k) in
    omega arith

lighter : (size n m : ℕ) → n < m → m < size → 3 * 3 ^ (size - m) ≤ 3 ^ (size - n)
lighter size n m later inside =
    let same : suc (size - m) + (m - suc n) ≡ size - n = omega arith in
    subst (λ (k : ℕ). 3 * 3 ^ (size - m) ≤ 3 ^ k) same (pow_later (size - m) (m - suc n))

sides_lighter : (nodes : List Node) (n kids : ℕ) (h : How) → IsEndOf nodes n kids h → weight (length nodes) (sides_from kids h) < 3 ^ (length nodes - n)
sides_lighter nodes n kids (how.Split front basis position value) (sides, narrow) =
    let after : n < kids = sides.later in
    let inside : suc kids < length nodes = sides.inside in
    let left : 3 * 3 ^ (length nodes - kids) ≤ 3 ^ (length nodes - n) = lighter (length nodes) n kids after (omega arith) in
    let right : 3 * 3 ^ (length nodes - suc kids) ≤ 3 ^ (length nodes - n) = lighter (length nodes) n (suc kids) (omega arith) inside in
    let some : 1 ≤ 3 ^ (length nodes - n) = pow_some (length nodes - n) in
    omega arith
sides_lighter nodes n kids (how.Leaf front leaf) h =
    let some : 1 ≤ 3 ^ (length nodes - n) = pow_some (length nodes - n) in
    omega arith

sides_inside : (nodes : List Node) (n kids : ℕ) (h : How) → IsEndOf nodes n kids h → AllByRecursion (λ k. k < length nodes) (sides_from kids h)
sides_inside nodes n kids (how.Split front basis position value) (sides, narrow) =
    let inside : suc kids < length nodes = sides.inside in
    (inside, (omega arith, tt))
sides_inside nodes n kids (how.Leaf front leaf) h = tt

has_next : (nodes : List Node) (n kids : ℕ) (h : How) → IsEndOf nodes n kids h → HasNext h
has_next nodes n kids (how.Split front basis position value) (sides, narrow) = narrow
has_next nodes n kids (how.Leaf front leaf) h = tt

-- ---- the walk
-- the stacked numbers are those of nodes, and with the list and what is still to come each tree at the first node is whole
pub record IsWalk (nodes : List Node) (stack : List ℕ) (list : List TreeNode) : Type 0 where
  pub inside : AllByRecursion (λ n. n < length nodes) stack
  pub whole : (tree : Tree) → IsTreeAt nodes 0 tree → (rest : List TreeNode) × IsPending nodes stack rest × (list ++ rest ≡ preorder tree)

pub walk_begins : (nodes : List Node) → AreClosed nodes → IsWalk nodes (0 ∷ []) []
walk_begins nodes closed = record {
  inside = (closed.first, tt);
  whole = λ tree at. (preorder tree, (tree, [], at, refl, refl), refl);
}

-- what the end of the node at the top is
pub end_at : (nodes : List Node) (n : ℕ) (closing : Closing) → AreClosed nodes → IsClosingAt nodes n closing → IsEndOf nodes n closing.kids closing.how
end_at nodes n closing closed c = subst (IsClosedAt nodes n) c.closed (closed.each n c.node c.is_node)

pub next_at : (nodes : List Node) (n : ℕ) (closing : Closing) → AreClosed nodes → IsClosingAt nodes n closing → HasNext closing.how
next_at nodes n closing closed c = has_next nodes n closing.kids closing.how (end_at nodes n closing closed c)

inside_before : (size : ℕ) (xs ys : List ℕ) → AllByRecursion (λ n. n < size) (xs ++ ys) → AllByRecursion (λ n. n < size) xs
inside_before size [] ys h = tt
inside_before size (x ∷ xs) ys h = (h.0, inside_before size xs ys h.1)

inside_last : (size : ℕ) (xs : List ℕ) (n : ℕ) → AllByRecursion (λ k. k < size) (xs ++ n ∷ []) → n < size
inside_last size [] n h = h.0
inside_last size (x ∷ xs) n h = inside_last size xs n h.1

pub top_inside : (nodes : List Node) (ns : List ℕ) (n : ℕ) (list : List TreeNode) → IsWalk nodes (ns ++ n ∷ []) list → n < length nodes
top_inside nodes ns n list h = inside_last (length nodes) ns n h.inside

pub walk_goes : (nodes : List Node) (ns : List ℕ) (n : ℕ) (list : List TreeNode) (closing : Closing) → AreClosed nodes → IsClosingAt nodes n closing → IsWalk nodes (ns ++ n ∷ []) list → IsWalk nodes (ns ++ sides_of closing) (list ++ head_of closing.how ∷ [])
walk_goes nodes ns n list closing closed c h = record {
  inside = all_append (λ k. k < length nodes) ns (sides_of closing) (inside_before (length nodes) ns (n ∷ []) h.inside) (sides_inside nodes n closing.kids closing.how (end_at nodes n closing closed c));
  whole = λ tree at_first. go tree (h.whole tree at_first);
}
  where
    step : (tree : Tree) (rest : List TreeNode) → list ++ rest ≡ preorder tree → IsTop nodes ns n rest → (rest : List TreeNode) × IsPending nodes (ns ++ sides_of closing) rest × ((list ++ head_of closing.how ∷ []) ++ rest ≡ preorder tree)
    step tree rest whole (own, later, at_own, pending, front) = last (node_step nodes ns n c.node closing own later c.is_node c.closed at_own pending)
      where
        last : IsStep nodes ns closing (preorder own ++ later) → (rest : List TreeNode) × IsPending nodes (ns ++ sides_of closing) rest × ((list ++ head_of closing.how ∷ []) ++ rest ≡ preorder tree)
        last (more, after, same) = (
          more,
          after,
          append_assoc list (head_of closing.how ∷ []) more ∙ ap (λ (l : List TreeNode). list ++ l) (sym (front ∙ same)) ∙ whole,
        )

    go : (tree : Tree) → ((rest : List TreeNode) × IsPending nodes (ns ++ n ∷ []) rest × (list ++ rest ≡ preorder tree)) → (rest : List TreeNode) × IsPending nodes (ns ++ sides_of closing) rest × ((list ++ head_of closing.how ∷ []) ++ rest ≡ preorder tree)
    go tree (rest, pending, whole) = step tree rest whole (top_of nodes ns n rest pending)

pub walk_lighter : (nodes : List Node) (ns : List ℕ) (n : ℕ) (closing : Closing) → AreClosed nodes → IsClosingAt nodes n closing → weight (length nodes) (ns ++ sides_of closing) < weight (length nodes) (ns ++ n ∷ [])
walk_lighter nodes ns n closing closed c =
    let sides : weight (length nodes) (sides_of closing) < 3 ^ (length nodes - n) = sides_lighter nodes n closing.kids closing.how (end_at nodes n closing closed c) in
    let new : weight (length nodes) (ns ++ sides_of closing) ≡ weight (length nodes) ns + weight (length nodes) (sides_of closing) = weight-append (length nodes) ns (sides_of closing) in
    let old : weight (length nodes) (ns ++ n ∷ []) ≡ weight (length nodes) ns + (3 ^ (length nodes - n) + 0) = weight-append (length nodes) ns (n ∷ []) in
    omega arith

-- where nothing is stacked, the list is whole
pub walk_ends : (nodes : List Node) (list : List TreeNode) → IsWalk nodes [] list → (tree : Tree) → IsTreeAt nodes 0 tree → list ≡ preorder tree
walk_ends nodes list h tree at = by (h.whole tree at)
  where
    by : ((rest : List TreeNode) × IsPending nodes [] rest × (list ++ rest ≡ preorder tree)) → list ≡ preorder tree
    by (rest, none, whole) = sym (append-nil list) ∙ ap (λ (l : List TreeNode). list ++ l) (sym none) ∙ whole
