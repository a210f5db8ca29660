-- Each node is a side of one other at most, and so the tree below the first one has each node once at most.
use Rattle.std.proofs.Common.{◌≡◌, refl, sym, ◌∙◌, ap, subst, ℕ, zero, suc, ◌+◌, ◌<◌, ◌≤◌, List, [], ◌∷◌, ◌++◌, length, inl, inr, arith}
use Rattle.std.proofs.lemmas.Bool.{cases_eq, eq-eqb, ne_eqb}
use Rattle.std.proofs.lemmas.List.{length-append}
use Rattle.std.proofs.lemmas.Option.{slice_get_within}
use Rattle.std.specs.Prelude.{◌⊎◌, ◌==◌, Bool, Option, Some, None, cond}
use Rattle.std.specs.List.{slice_get}
use Rattle.bz_model.specs.Splits.{Decomposition}
use Rattle.bz_cut.specs.declared.Cut.{Cut}
use Rattle.bz_tree.specs.Trees.{Tree, preorder}
use Rattle.bz_event.specs.declared.events.Entry.{Entry}
use Rattle.bz_event.specs.declared.events.Event.{Event}
use Rattle.bz_event.specs.declared.events.Event.TheVariants as event
use Rattle.bz_event.specs.declared.events.How.{How}
use Rattle.bz_event.specs.declared.events.How.TheVariants as how
use Rattle.bz_history.specs.declared.state.Closing.{Closing}
use Rattle.bz_history.specs.declared.state.Node.{Node}
use Rattle.bz_history.specs.declared.state.Region.{Region}
use Rattle.bz_history.specs.Certificates.{IsForkAt, IsTipAt, IsTreeAt}
use Rattle.bz_history.specs.Histories.{IsReplay}
use Rattle.bz_history.specs.States.{State, changed, closed_by, effect, posted_by, sides_opened}
use Rattle.bz_history.specs.Steps.{IsAt, MayFollow}
use Rattle.bz_history.specs.Trees.{IsEnd, IsEndedRight, IsParent, IsSplitAt, IsTree, ParentsAreOne}
use Rattle.bz_history.proofs.CertificateTrees.{node_at}
use Rattle.bz_history.proofs.Growing.{histories_grow}
use Rattle.bz_history.proofs.Lists.{at_changed, at_either, at_one}
use Rattle.bz_history.proofs.TreeSteps.{AreSteady, steady_changed, steady_freed, trees_are_whole}

-- ---- one parent
abbrev HaveOneParent : List Node → Type 0
HaveOneParent nodes = (m k n : ℕ) → IsParent nodes m n → IsParent nodes k n → m ≡ k

parent_before : (nodes later : List Node) (m n : ℕ) → AreSteady nodes later → IsParent later m n → IsParent nodes m n
parent_before nodes later m n steady p =
    let s : (x : Node) × IsAt nodes m x × (p.node.region ≡ x.region) × (p.node.closing ≡ x.closing) = steady m p.node p.is_node in
    record {
      node = s.0;
      is_node = s.1;
      closing = p.closing;
      closed = sym s.3 ∙ p.closed;
      front = p.front;
      basis = p.basis;
      position = p.position;
      value = p.value;
      split = p.split;
      side = p.side;
    }

one_kept : (nodes later : List Node) → AreSteady nodes later → HaveOneParent nodes → HaveOneParent later
one_kept nodes later steady h m k n a b = h m k n (parent_before nodes later m n steady a) (parent_before nodes later k n steady b)

-- the split of a parent
split_at : (d : Decomposition) (root : Region) (cuts : List Cut) (nodes : List Node) (m n : ℕ) → IsTree d root cuts nodes → (p : IsParent nodes m n) → IsSplitAt d nodes m p.node.region p.position p.value p.closing.kids
split_at d root cuts nodes m n tree p =
    subst (IsEnd d cuts nodes m p.node.region p.closing.kids) p.split (subst (IsEndedRight d cuts nodes m p.node.region) p.closed (tree.each m p.node p.is_node))

-- a side is there
side_inside : (d : Decomposition) (root : Region) (cuts : List Cut) (nodes : List Node) (m n : ℕ) → IsTree d root cuts nodes → IsParent nodes m n → n < length nodes
side_inside d root cuts nodes m n tree p = by p.side
  where
    s : IsSplitAt d nodes m p.node.region p.position p.value p.closing.kids
    s = split_at d root cuts nodes m n tree p

    by : (n ≡ p.closing.kids) ⊎ (n ≡ suc p.closing.kids) → n < length nodes
    by (inl e) = subst (λ (k : ℕ). k < length nodes) (sym e) (slice_get_within nodes p.closing.kids s.left.node s.left.is_node)
    by (inr e) = subst (λ (k : ℕ). k < length nodes) (sym e) (slice_get_within nodes (suc p.closing.kids) s.right.node s.right.is_node)

-- a side comes later
side_later : (d : Decomposition) (root : Region) (cuts : List Cut) (nodes : List Node) (m n : ℕ) → IsTree d root cuts nodes → IsParent nodes m n → m < n
side_later d root cuts nodes m n tree p = by p.side
  where
    by : (n ≡ p.closing.kids) ⊎ (n ≡ suc p.closing.kids) → m < n
    by e =
        let after : m < p.closing.kids = (split_at d root cuts nodes m n tree p).later in
        at_least e after
      where
        at_least : (n ≡ p.closing.kids) ⊎ (n ≡ suc p.closing.kids) → m < p.closing.kids → m < n
        at_least (inl e) after = omega (arith, e, after)
        at_least (inr e) after = omega (arith, e, after)

-- the nodes that a closing opens are open
sides_open : (d : Decomposition) (cuts : ℕ) (h : How) (o : Option Node) (j : ℕ) (z : Node) → slice_get (sides_opened d cuts h o) j ≡ Some z → z.closing ≡ None
sides_open d cuts (how.Split front basis position value) (Some node) zero z is = sym (ap closing_of is)
  where
    closing_of : Option Node → Option Closing
    closing_of None = None
    closing_of (Some x) = x.closing
sides_open d cuts (how.Split front basis position value) (Some node) (suc zero) z is = sym (ap closing_of is)
  where
    closing_of : Option Node → Option Closing
    closing_of None = None
    closing_of (Some x) = x.closing
sides_open d cuts (how.Split front basis position value) (Some node) (suc (suc j)) z is = absurd (cc)
sides_open d cuts (how.Split front basis position value) None j z is = absurd (cc)
sides_open d cuts (how.Leaf front leaf) o j z is = absurd (cc)

-- a parent after a closing was one before, or is the node that is closed, whose sides come after all others
parent_after : (nodes more : List Node) (number at : ℕ) (h : How) (m n : ℕ) → ((j : ℕ) (z : Node) → slice_get more j ≡ Some z → z.closing ≡ None) → IsParent (changed (closed_by h at (length nodes)) nodes number ++ more) m n → IsParent nodes m n ⊎ ((m ≡ number) × (length nodes ≤ n))
parent_after nodes more number at h m n opened p = either (at_either closed more m p.node p.is_node)
  where
    closed : List Node
    closed = changed (closed_by h at (length nodes)) nodes number

    before : ((x : Node) × (slice_get nodes m ≡ Some x) × ((p.node ≡ x) ⊎ ((m ≡ number) × (p.node ≡ closed_by h at (length nodes) x)))) → IsParent nodes m n ⊎ ((m ≡ number) × (length nodes ≤ n))
    before (x, is, inl e) = inl (record {
      node = p.node;
      is_node = subst (λ (y : Node). slice_get nodes m ≡ Some y) (sym e) is;
      closing = p.closing;
      closed = p.closed;
      front = p.front;
      basis = p.basis;
      position = p.position;
      value = p.value;
      split = p.split;
      side = p.side;
    })
    before (x, is, inr e) =
        let own : Some (record { how = h; at = at; kids = length nodes }) ≡ Some p.closing = sym (ap (λ (y : Node). y.closing) e.1) ∙ p.closed in
        let kids : length nodes ≡ p.closing.kids = some_kids own in
        inr (e.0, sides kids p.side)
      where
        some_kids : {a b : Closing} → Some a ≡ Some b → a.kids ≡ b.kids
        some_kids e = ap (λ (c : Closing). c.kids) (some_one e)
          where
            some_one : {a b : Closing} → Some a ≡ Some b → a ≡ b
            some_one e = cc

        sides : length nodes ≡ p.closing.kids → (n ≡ p.closing.kids) ⊎ (n ≡ suc p.closing.kids) → length nodes ≤ n
        sides kids (inl e) = omega (arith, kids, e)
        sides kids (inr e) = omega (arith, kids, e)

    either : (slice_get closed m ≡ Some p.node) ⊎ ((j : ℕ) × (m ≡ length closed + j) × (slice_get more j ≡ Some p.node)) → IsParent nodes m n ⊎ ((m ≡ number) × (length nodes ≤ n))
    either (inl is) = before (at_changed (closed_by h at (length nodes)) nodes number m p.node is)
    either (inr (j, place, is)) =
        let both : None ≡ Some p.closing = sym (opened j p.node is) ∙ p.closed in
        absurd (cc)

one_closed : (d : Decomposition) (root : Region) (cuts : List Cut) (nodes more : List Node) (number at : ℕ) (h : How) → ((j : ℕ) (z : Node) → slice_get more j ≡ Some z → z.closing ≡ None) → IsTree d root cuts nodes → HaveOneParent nodes → HaveOneParent (changed (closed_by h at (length nodes)) nodes number ++ more)
one_closed d root cuts nodes more number at h opened tree one m k n a b = by (parent_after nodes more number at h m n opened a) (parent_after nodes more number at h k n opened b)
  where
    by : IsParent nodes m n ⊎ ((m ≡ number) × (length nodes ≤ n)) → IsParent nodes k n ⊎ ((k ≡ number) × (length nodes ≤ n)) → m ≡ k
    by (inl p) (inl q) = one m k n p q
    by (inl p) (inr q) = absurd (omega (arith, side_inside d root cuts nodes m n tree p, q.1))
    by (inr p) (inl q) = absurd (omega (arith, side_inside d root cuts nodes k n tree q, p.1))
    by (inr p) (inr q) = p.0 ∙ sym q.0

one_step : (d : Decomposition) (budget : ℕ) (root : Region) (t : State) (e : Event) → MayFollow d budget t e → IsTree d root t.cuts t.nodes → HaveOneParent t.nodes → HaveOneParent (effect d t e).nodes
one_step d budget root t (event.Floor block basis cut) may tree h = h
one_step d budget root t (event.Ray block direction) may tree h = h
one_step d budget root t (event.Post node front point leaf) may tree h = one_kept t.nodes (changed (posted_by (length t.posts)) t.nodes node) (steady_changed (posted_by (length t.posts)) t.nodes node (λ x. refl) (λ x. refl)) h
one_step d budget root t (event.Append post basis cut) may tree h = one_kept t.nodes _ (steady_freed (slice_get t.posts post) (length t.cuts) t.nodes) h
one_step d budget root t (event.Again post basis place) may tree h = one_kept t.nodes _ (steady_freed (slice_get t.posts post) place t.nodes) h
one_step d budget root t (event.Fill post block y) may tree h = h
one_step d budget root t (event.Incumbent post) may tree h = h
one_step d budget root t (event.Close number w) may tree h = one_closed d root t.cuts t.nodes (sides_opened d (length t.cuts) w (slice_get t.nodes number)) number t.entries w (sides_open d (length t.cuts) w (slice_get t.nodes number)) tree h
one_step d budget root t (event.Stop reason) may tree h = h

pub parents_are_one : ParentsAreOne
parents_are_one d budget root es t r = histories_grow d budget root (λ es u. HaveOneParent u.nodes) (λ m k n a b. absurd (begins m n a))
    (λ before u x replayed step old. one_step d budget root u x.event step.may (trees_are_whole d budget root before u replayed) old) es t r
  where
    begins : (m n : ℕ) → IsParent (Rattle.bz_history.specs.States.side 0 root ∷ []) m n → ⊥
    begins zero n p =
        let closing : None ≡ Some p.closing = ap closing_of p.is_node ∙ p.closed in
        absurd (cc)
      where
        closing_of : Option Node → Option Closing
        closing_of None = None
        closing_of (Some x) = x.closing
    begins (suc m) n p =
        let none : None ≡ Some p.node = p.is_node in
        absurd (cc)

-- ---- how often a node stands in the tree
-- 1 where the numbers are the same
abbrev here : ℕ → ℕ → ℕ
here x n = cond (x == n) 1 0

here_same : (x n : ℕ) → x ≡ n → here x n ≡ 1
here_same x n e = ap (λ (b : Bool). cond b 1 0) (eq-eqb x n e)

here_other : (x n : ℕ) → (x ≡ n → ⊥) → here x n ≡ 0
here_other x n d = ap (λ (b : Bool). cond b 1 0) (ne_eqb x n d)

here_few : (x n : ℕ) → here x n ≤ 1
here_few x n = elim (cases_eq x n) [
  | inl e ↦ omega (arith, here_same x n e)
  | inr d ↦ omega (arith, here_other x n d)
]

-- how often node x stands in the tree below node n
times : (nodes : List Node) (x : ℕ) (tree : Tree) (n : ℕ) → IsTreeAt nodes n tree → ℕ
times nodes x (Tree.tip leaf) n at = here x n
times nodes x (Tree.fork position left right a b) n (kids, fork, at_a, at_b) = here x n + (times nodes x a kids at_a + times nodes x b (suc kids) at_b)

sum_to : ℕ → (ℕ → ℕ) → ℕ
sum_to zero f = 0
sum_to (suc n) f = sum_to n f + f n

sum_add : (size : ℕ) (f g : ℕ → ℕ) → sum_to size (λ x. f x + g x) ≡ sum_to size f + sum_to size g
unfolding sum_to
sum_add zero f g = omega arith
sum_add (suc size) f g =
    let rest : sum_to size (λ x. f x + g x) ≡ sum_to size f + sum_to size g = sum_add size f g in
    omega arith

sum_none : (size n : ℕ) → size ≤ n → sum_to size (λ x. here x n) ≡ 0
unfolding sum_to
sum_none zero n l = refl
sum_none (suc size) n l =
    let rest : sum_to size (λ x. here x n) ≡ 0 = sum_none size n (omega arith) in
    let last : here size n ≡ 0 = here_other size n (λ e. omega arith) in
    omega arith

sum_one : (size n : ℕ) → n < size → sum_to size (λ x. here x n) ≡ 1
unfolding sum_to
sum_one zero n l = absurd (omega arith)
sum_one (suc size) n l = elim (cases_eq size n) [
  | inl e ↦
      let rest : sum_to size (λ x. here x n) ≡ 0 = sum_none size n (omega arith) in
      let last : here size n ≡ 1 = here_same size n e in
      omega arith
  | inr d ↦
      let rest : sum_to size (λ x. here x n) ≡ 1 = sum_one size n (omega arith) in
      let last : here size n ≡ 0 = here_other size n d in
      omega arith
]

sum_few : (size : ℕ) (f : ℕ → ℕ) → ((x : ℕ) → x < size → f x ≤ 1) → sum_to size f ≤ size
unfolding sum_to
sum_few zero f h = omega arith
sum_few (suc size) f h =
    let rest : sum_to size f ≤ size = sum_few size f (λ x l. h x (omega arith)) in
    let last : f size ≤ 1 = h size (omega arith) in
    omega arith

-- the nodes of the tree are as many as its preorder has
all_times : (nodes : List Node) (tree : Tree) (n : ℕ) (at : IsTreeAt nodes n tree) → sum_to (length nodes) (λ x. times nodes x tree n at) ≡ length (preorder tree)
unfolding times
all_times nodes (Tree.tip leaf) n at = sum_one (length nodes) n (slice_get_within nodes n at.node at.is_node)
all_times nodes (Tree.fork position left right a b) n (kids, fork, at_a, at_b) =
    let all : sum_to (length nodes) (λ x. here x n + (times nodes x a kids at_a + times nodes x b (suc kids) at_b)) ≡ sum_to (length nodes) (λ x. here x n) + sum_to (length nodes) (λ x. times nodes x a kids at_a + times nodes x b (suc kids) at_b)
    = sum_add (length nodes) (λ x. here x n) (λ x. times nodes x a kids at_a + times nodes x b (suc kids) at_b) in
    let both : sum_to (length nodes) (λ x. times nodes x a kids at_a + times nodes x b (suc kids) at_b) ≡ sum_to (length nodes) (λ x. times nodes x a kids at_a) + sum_to (length nodes) (λ x. times nodes x b (suc kids) at_b)
    = sum_add (length nodes) (λ x. times nodes x a kids at_a) (λ x. times nodes x b (suc kids) at_b) in
    let own : sum_to (length nodes) (λ x. here x n) ≡ 1 = sum_one (length nodes) n (slice_get_within nodes n fork.node fork.is_node) in
    let below : sum_to (length nodes) (λ x. times nodes x a kids at_a) ≡ length (preorder a) = all_times nodes a kids at_a in
    let above : sum_to (length nodes) (λ x. times nodes x b (suc kids) at_b) ≡ length (preorder b) = all_times nodes b (suc kids) at_b in
    let list : length (preorder a ++ preorder b) ≡ length (preorder a) + length (preorder b) = length-append (preorder a) (preorder b) in
    omega arith

-- the fork is the parent of its sides
parent_of_fork : (nodes : List Node) (n position x kids : ℕ) (left right : _) → IsForkAt nodes n position left right kids → (x ≡ kids) ⊎ (x ≡ suc kids) → IsParent nodes n x
parent_of_fork nodes n position x kids left right f side = record {
  node = f.node;
  is_node = f.is_node;
  closing = f.closing;
  closed = f.closed;
  front = f.front;
  basis = f.basis;
  position = position;
  value = left;
  split = f.by_split;
  side = by side;
}
  where
    by : (x ≡ kids) ⊎ (x ≡ suc kids) → (x ≡ f.closing.kids) ⊎ (x ≡ suc f.closing.kids)
    by (inl e) = inl (e ∙ sym f.kids_are)
    by (inr e) = inr (e ∙ ap suc (sym f.kids_are))

-- the sides of a fork that is a parent are the fork's own
sides_of_fork : (nodes : List Node) (n position x kids : ℕ) (left right : _) → IsForkAt nodes n position left right kids → IsParent nodes n x → (x ≡ kids) ⊎ (x ≡ suc kids)
sides_of_fork nodes n position x kids left right f p = by p.side
  where
    closings : (a b : Closing) → Some a ≡ Some b → a ≡ b
    closings a b e = cc

    own : p.closing.kids ≡ kids
    own = ap (λ (c : Closing). c.kids) (closings p.closing f.closing (sym p.closed ∙ ap (λ (y : Node). y.closing) (at_one nodes n p.node f.node p.is_node f.is_node) ∙ f.closed)) ∙ f.kids_are

    by : (x ≡ p.closing.kids) ⊎ (x ≡ suc p.closing.kids) → (x ≡ kids) ⊎ (x ≡ suc kids)
    by (inl e) = inl (e ∙ own)
    by (inr e) = inr (e ∙ ap suc own)

-- a leaf is no parent
tip_no_parent : (nodes : List Node) (n x : ℕ) (leaf : _) → IsTipAt nodes n leaf → IsParent nodes n x → ⊥
tip_no_parent nodes n x leaf t p =
    let same : p.closing ≡ t.closing = closings p.closing t.closing (sym p.closed ∙ ap (λ (y : Node). y.closing) (at_one nodes n p.node t.node p.is_node t.is_node) ∙ t.closed) in
    let both : how.Split p.front p.basis p.position p.value ≡ how.Leaf t.front leaf = sym p.split ∙ ap (λ (c : Closing). c.how) same ∙ t.by_leaf in
    absurd (cc)
  where
    closings : (a b : Closing) → Some a ≡ Some b → a ≡ b
    closings a b e = cc

-- a node without a parent stands at the top of the tree alone
times_first : (nodes : List Node) (x : ℕ) → ((m : ℕ) → IsParent nodes m x → ⊥) → (tree : Tree) (n : ℕ) (at : IsTreeAt nodes n tree) → times nodes x tree n at ≡ here x n
unfolding times
times_first nodes x none (Tree.tip leaf) n at = refl
times_first nodes x none (Tree.fork position left right a b) n (kids, fork, at_a, at_b) =
    let below : times nodes x a kids at_a ≡ here x kids = times_first nodes x none a kids at_a in
    let above : times nodes x b (suc kids) at_b ≡ here x (suc kids) = times_first nodes x none b (suc kids) at_b in
    let not_below : here x kids ≡ 0 = here_other x kids (λ e. none n (parent_of_fork nodes n position x kids left right fork (inl e))) in
    let not_above : here x (suc kids) ≡ 0 = here_other x (suc kids) (λ e. none n (parent_of_fork nodes n position x kids left right fork (inr e))) in
    omega arith

-- one of the two sides, of a parent
one_side : (x kids : ℕ) → (x ≡ kids) ⊎ (x ≡ suc kids) → here x kids + here x (suc kids) ≡ 1
one_side x kids (inl e) = omega (arith, here_same x kids e, here_other x (suc kids) (λ f. omega arith))
one_side x kids (inr e) = omega (arith, here_same x (suc kids) e, here_other x kids (λ f. omega arith))

-- a node stands in a tree as often as its parent, and once more at the top
times_side : (nodes : List Node) → HaveOneParent nodes → (x p : ℕ) → IsParent nodes p x → (tree : Tree) (n : ℕ) (at : IsTreeAt nodes n tree) → times nodes x tree n at ≡ times nodes p tree n at + here x n
unfolding times
times_side nodes one x p parent (Tree.tip leaf) n at =
    let other : here p n ≡ 0 = here_other p n (λ e. tip_no_parent nodes n x leaf at (subst (λ (k : ℕ). IsParent nodes k x) e parent)) in
    omega arith
times_side nodes one x p parent (Tree.fork position left right a b) n (kids, fork, at_a, at_b) =
    let below : times nodes x a kids at_a ≡ times nodes p a kids at_a + here x kids = times_side nodes one x p parent a kids at_a in
    let above : times nodes x b (suc kids) at_b ≡ times nodes p b (suc kids) at_b + here x (suc kids) = times_side nodes one x p parent b (suc kids) at_b in
    let sides : here x kids + here x (suc kids) ≡ here p n = elim (cases_eq p n) [
      | inl e ↦ one_side x kids (sides_of_fork nodes n position x kids left right fork (subst (λ (k : ℕ). IsParent nodes k x) e parent)) ∙ sym (here_same p n e)
      | inr d ↦
          let not_below : here x kids ≡ 0 = here_other x kids (λ e. d (one p n x parent (parent_of_fork nodes n position x kids left right fork (inl e)))) in
          let not_above : here x (suc kids) ≡ 0 = here_other x (suc kids) (λ e. d (one p n x parent (parent_of_fork nodes n position x kids left right fork (inr e)))) in
          let own : here p n ≡ 0 = here_other p n d in
          omega arith
    ] in
    omega arith

-- each node stands in the tree below the first one once at most
times_few : (d : Decomposition) (root : Region) (cuts : List Cut) (nodes : List Node) → IsTree d root cuts nodes → HaveOneParent nodes → (tree : Tree) (at : IsTreeAt nodes 0 tree) → (fuel x : ℕ) → x < fuel → x < length nodes → times nodes x tree 0 at ≤ 1
times_few d root cuts nodes whole one tree at zero x few inside = absurd (omega arith)
times_few d root cuts nodes whole one tree at (suc fuel) zero few inside =
    let first : times nodes 0 tree 0 at ≡ here 0 0 = times_first nodes 0 (λ m p. absurd (omega (arith, side_later d root cuts nodes m 0 whole p))) tree 0 at in
    omega (arith, first, here_few 0 0)
times_few d root cuts nodes whole one tree at (suc fuel) (suc x) few inside =
    let own : (y : Node) × IsAt nodes (suc x) y = node_at nodes (suc x) inside in
    let p : (m : ℕ) × IsParent nodes m (suc x) = whole.parents x own.0 own.1 in
    let before : p.0 < suc x = side_later d root cuts nodes p.0 (suc x) whole p.1 in
    let rest : times nodes p.0 tree 0 at ≤ 1 = times_few d root cuts nodes whole one tree at fuel p.0 (omega arith) (omega arith) in
    let same : times nodes (suc x) tree 0 at ≡ times nodes p.0 tree 0 at + here (suc x) 0 = times_side nodes one (suc x) p.0 p.1 tree 0 at in
    let other : here (suc x) 0 ≡ 0 = here_other (suc x) 0 (λ e. omega arith) in
    omega arith

-- the tree below the first node has no more nodes than there are
pub tree_small : (d : Decomposition) (budget : ℕ) (root : Region) (es : List Entry) (t : State) → IsReplay d budget root es t → (tree : Tree) → IsTreeAt t.nodes 0 tree → length (preorder tree) ≤ length t.nodes
tree_small d budget root es t r tree at =
    subst (λ (n : ℕ). n ≤ length t.nodes) (all_times t.nodes tree 0 at)
    (sum_few (length t.nodes) (λ x. times t.nodes x tree 0 at) (λ x inside. times_few d root t.cuts t.nodes (trees_are_whole d budget root es t r) (parents_are_one d budget root es t r) tree at (suc x) x (omega arith) inside))
