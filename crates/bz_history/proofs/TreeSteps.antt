-- The tree is kept whole by each event.
use Rattle.std.proofs.Common.{◌≡◌, refl, sym, ◌∙◌, ap, subst, ℕ, zero, suc, ◌+◌, ◌≤◌, List, [], ◌∷◌, ◌++◌, length, inl, inr, arith, ℤ, pos, ◌+ℤ◌, ◌≤ℤ◌, ◌<ℤ◌}
use Rattle.std.proofs.lemmas.Int.{ints}
use Rattle.std.specs.Prelude.{◌⊎◌, Option, Some, None, Bool, true, false, cond, is_none, take, set}
use Rattle.std.specs.List.{slice_get}
use Rattle.std.proofs.lemmas.List.{length-set}
use Rattle.std.proofs.lemmas.Option.{slice_get_within}
use Rattle.bz_model.specs.Points.{coordinate}
use Rattle.bz_model.specs.Splits.{Decomposition}
use Rattle.bz_cut.specs.declared.Cut.{Cut}
use Rattle.bz_tree.specs.declared.Leaf.{Leaf}
use Rattle.bz_tree.specs.Integers.{integer_at}
use Rattle.bz_tree.specs.Leaves.{LeafHolds}
use Rattle.bz_tree.specs.TreeFits.{FitsLeaf}
use Rattle.bz_event.specs.declared.events.Event.{Event}
use Rattle.bz_event.specs.declared.events.Event.TheVariants as event
use Rattle.bz_event.specs.declared.events.How.{How}
use Rattle.bz_event.specs.declared.events.How.TheVariants as how
use Rattle.bz_history.specs.declared.state.Closing.{Closing}
use Rattle.bz_history.specs.declared.state.Node.{Node}
use Rattle.bz_history.specs.declared.state.Post.{Post}
use Rattle.bz_history.specs.declared.state.Region.{Region}
use Rattle.bz_history.specs.States.{State, above, below, box_of, changed, closed_by, effect, freed_by, freed_where_live, is_live, posted_by, side, sides_opened}
use Rattle.bz_history.specs.Steps.{IsAt, IsClosing, IsLeafStep, IsSplitStep, MayFollow}
use Rattle.bz_history.specs.Trees.{HasRegion, IsEnd, IsEndedRight, IsInside, IsLeafAt, IsParent, IsTree, TreesAreWhole}
use Rattle.bz_history.proofs.Growing.{histories_grow}
use Rattle.bz_history.proofs.Lists.{at_after, changed_here, at_changed, at_either, at_kept, at_one, changed_item, length-changed}
use Rattle.bz_history.proofs.PostSteps.{AreKept, IsLonger, kept_changed, kept_freed, kept_same, kept_with, longer_same, longer_with}
use Rattle.bz_history.proofs.SplitColumns.{splits_at}

-- ---- nodes that stay as they are
-- each node has the region and the end of the one that was there
abbrev pub AreSteady : List Node → List Node → Type 0
AreSteady nodes later = (n : ℕ) (z : Node) → IsAt later n z → (x : Node) × IsAt nodes n x × (z.region ≡ x.region) × (z.closing ≡ x.closing)

pub steady_same : (nodes : List Node) → AreSteady nodes nodes
steady_same nodes n z h = (z, h, refl, refl)

pub steady_changed : (f : Node → Node) (nodes : List Node) (i : ℕ) → ((x : Node) → (f x).region ≡ x.region) → ((x : Node) → (f x).closing ≡ x.closing) → AreSteady nodes (changed f nodes i)
steady_changed f nodes i region closing n z h = by (at_changed f nodes i n z h)
  where
    by : ((x : Node) × (slice_get nodes n ≡ Some x) × ((z ≡ x) ⊎ ((n ≡ i) × (z ≡ f x)))) → (x : Node) × IsAt nodes n x × (z.region ≡ x.region) × (z.closing ≡ x.closing)
    by (x, is, inl e) = (x, is, ap (λ (y : Node). y.region) e, ap (λ (y : Node). y.closing) e)
    by (x, is, inr e) = (x, is, ap (λ (y : Node). y.region) e.1 ∙ region x, ap (λ (y : Node). y.closing) e.1 ∙ closing x)

steady_where : (b : Bool) (nodes later : List Node) → AreSteady nodes later → AreSteady nodes (cond b later nodes)
steady_where true nodes later h = h
steady_where false nodes later h = steady_same nodes

pub steady_freed : (o : Option Post) (number : ℕ) (nodes : List Node) → AreSteady nodes (freed_where_live o number nodes)
steady_freed None number nodes = steady_same nodes
steady_freed (Some post) number nodes = steady_where (is_live post) nodes (changed (freed_by number) nodes post.node) (steady_changed (freed_by number) nodes post.node (λ x. refl) (λ x. refl))

-- closed nodes stay with their ends
abbrev AreKeptClosed : List Node → List Node → Type 0
AreKeptClosed nodes later = (n : ℕ) (x : Node) (c : Closing) → IsAt nodes n x → x.closing ≡ Some c → (z : Node) × IsAt later n z × (z.closing ≡ Some c)

closed_same : (nodes : List Node) → AreKeptClosed nodes nodes
closed_same nodes n x c h is = (x, h, is)

closed_changed : (f : Node → Node) (nodes : List Node) (i : ℕ) → ((x : Node) → (f x).closing ≡ x.closing) → AreKeptClosed nodes (changed f nodes i)
closed_changed f nodes i closing n x c h is = by (changed_item f nodes i n x h)
  where
    by : ((y : Node) × (slice_get (changed f nodes i) n ≡ Some y) × ((y ≡ x) ⊎ ((n ≡ i) × (y ≡ f x)))) → (z : Node) × IsAt (changed f nodes i) n z × (z.closing ≡ Some c)
    by (y, at, inl e) = (y, at, ap (λ (u : Node). u.closing) e ∙ is)
    by (y, at, inr e) = (y, at, ap (λ (u : Node). u.closing) e.1 ∙ closing x ∙ is)

closed_where : (b : Bool) (nodes later : List Node) → AreKeptClosed nodes later → AreKeptClosed nodes (cond b later nodes)
closed_where true nodes later h = h
closed_where false nodes later h = closed_same nodes

closed_freed : (o : Option Post) (number : ℕ) (nodes : List Node) → AreKeptClosed nodes (freed_where_live o number nodes)
closed_freed None number nodes = closed_same nodes
closed_freed (Some post) number nodes = closed_where (is_live post) nodes (changed (freed_by number) nodes post.node) (closed_changed (freed_by number) nodes post.node (λ x. refl))

-- ---- ends that stay right
region_kept : (nodes later : List Node) (n : ℕ) (region : Region) → AreKept nodes later → HasRegion nodes n region → HasRegion later n region
region_kept nodes later n region kept h =
    let k : (x : Node) × IsAt later n x × (x.region ≡ h.node.region) = kept n h.node h.is_node in
    record { node = k.0; is_node = k.1; region_is = k.2 ∙ h.region_is }

end_grown : (d : Decomposition) (cuts more : List Cut) (nodes later : List Node) (n : ℕ) (region : Region) (closing : Option Closing) → AreKept nodes later → IsLonger cuts more → IsEndedRight d cuts nodes n region closing → IsEndedRight d more later n region closing
end_grown d cuts more nodes later n region None kept longer h = tt
end_grown d cuts more nodes later n region (Some closing) kept longer h = by closing.how h
  where
    by : (w : How) → IsEnd d cuts nodes n region closing.kids w → IsEnd d more later n region closing.kids w
    by (how.Split front basis position value) g = record {
      later = g.later;
      is_split = g.is_split;
      at_least = g.at_least;
      below_upper = g.below_upper;
      left = region_kept nodes later closing.kids (below (integer_at d.model d.part position) value region) kept g.left;
      right = region_kept nodes later (suc closing.kids) (above (integer_at d.model d.part position) value region) kept g.right;
    }
    by (how.Leaf front leaf) g =
        let inside : front ≤ length cuts = g.front_is in
        let less : length cuts ≤ length more = longer.longer in
        record {
          front_is = omega arith;
          holds = subst (λ (cs : List Cut). LeafHolds d.model d.part (box_of region) cs leaf) (sym (longer.front front inside)) g.holds;
          fits = subst (λ (cs : List Cut). FitsLeaf d.model d.part (box_of region) cs leaf) (sym (longer.front front inside)) g.fits;
        }

parent_kept : (nodes later : List Node) (m n : ℕ) → AreKeptClosed nodes later → IsParent nodes m n → IsParent later m n
parent_kept nodes later m n kept h =
    let k : (z : Node) × IsAt later m z × (z.closing ≡ Some h.closing) = kept m h.node h.closing h.is_node h.closed in
    record {
      node = k.0;
      is_node = k.1;
      closing = h.closing;
      closed = k.2;
      front = h.front;
      basis = h.basis;
      position = h.position;
      value = h.value;
      split = h.split;
      side = h.side;
    }

-- the tree is whole over more cuts, with nodes that stay as they are
tree_kept : (d : Decomposition) (root : Region) (cuts more : List Cut) (nodes later : List Node) → AreKept nodes later → AreSteady nodes later → AreKeptClosed nodes later → IsLonger cuts more → IsTree d root cuts nodes → IsTree d root more later
tree_kept d root cuts more nodes later kept steady closed longer h = record {
  first = region_kept nodes later 0 root kept h.first;
  each = each;
  inside = inside;
  parents = parents;
}
  where
    each : (n : ℕ) (z : Node) → IsAt later n z → IsEndedRight d more later n z.region z.closing
    each n z is =
        let s : (x : Node) × IsAt nodes n x × (z.region ≡ x.region) × (z.closing ≡ x.closing) = steady n z is in
        subst (λ (c : Option Closing). IsEndedRight d more later n z.region c) (sym s.3)
        (subst (λ (r : Region). IsEndedRight d more later n r s.0.closing) (sym s.2)
        (end_grown d cuts more nodes later n s.0.region s.0.closing kept longer (h.each n s.0 s.1)))

    inside : (n : ℕ) (z : Node) → IsAt later n z → IsInside root z.region
    inside n z is =
        let s : (x : Node) × IsAt nodes n x × (z.region ≡ x.region) × (z.closing ≡ x.closing) = steady n z is in
        subst (IsInside root) (sym s.2) (h.inside n s.0 s.1)

    parents : (n : ℕ) (z : Node) → IsAt later (suc n) z → (m : ℕ) × IsParent later m (suc n)
    parents n z is =
        let s : (x : Node) × IsAt nodes (suc n) x × (z.region ≡ x.region) × (z.closing ≡ x.closing) = steady (suc n) z is in
        let p : (m : ℕ) × IsParent nodes m (suc n) = h.parents n s.0 s.1 in
        (p.0, parent_kept nodes later p.0 (suc n) closed p.1)

-- ---- a node is closed
-- a number is put in, or another stays
number_set : (xs : List ℤ) (k j : ℕ) (v : ℤ) → ((j ≡ k) × (coordinate (set xs k v) j ≡ v)) ⊎ (coordinate (set xs k v) j ≡ coordinate xs j)
number_set [] k j v = inr refl
number_set (x ∷ xs) zero zero v = inl (refl, refl)
number_set (x ∷ xs) zero (suc j) v = inr refl
number_set (x ∷ xs) (suc k) zero v = inr refl
number_set (x ∷ xs) (suc k) (suc j) v = later (number_set xs k j v)
  where
    later : ((j ≡ k) × (coordinate (set xs k v) j ≡ v)) ⊎ (coordinate (set xs k v) j ≡ coordinate xs j) → ((suc j ≡ suc k) × (coordinate (set xs k v) j ≡ v)) ⊎ (coordinate (set xs k v) j ≡ coordinate xs j)
    later (inl g) = inl (ap suc g.0, g.1)
    later (inr g) = inr g

-- the sides of a split lie in the root's box
inside_below : (root region : Region) (k : ℕ) (value : ℤ) → value <ℤ coordinate region.upper k → IsInside root region → IsInside root (below k value region)
inside_below root region k value less h = record {
  lowers = h.lowers;
  uppers = length-set region.upper k value ∙ h.uppers;
  lower = h.lower;
  upper = λ j. by j (number_set region.upper k j value);
}
  where
    by : (j : ℕ) → ((j ≡ k) × (coordinate (set region.upper k value) j ≡ value)) ⊎ (coordinate (set region.upper k value) j ≡ coordinate region.upper j) → coordinate (set region.upper k value) j ≤ℤ coordinate root.upper j
    by j (inl g) =
        let at : coordinate region.upper k ≤ℤ coordinate root.upper k = h.upper k in
        let here : value ≤ℤ coordinate root.upper k = omega (arith, ints) in
        subst (λ (n : ℤ). n ≤ℤ coordinate root.upper j) (sym g.1) (subst (λ (i : ℕ). value ≤ℤ coordinate root.upper i) (sym g.0) here)
    by j (inr g) = subst (λ (n : ℤ). n ≤ℤ coordinate root.upper j) (sym g) (h.upper j)

inside_above : (root region : Region) (k : ℕ) (value : ℤ) → coordinate region.lower k ≤ℤ value → IsInside root region → IsInside root (above k value region)
inside_above root region k value least h = record {
  lowers = length-set region.lower k (value +ℤ pos 1) ∙ h.lowers;
  uppers = h.uppers;
  lower = λ j. by j (number_set region.lower k j (value +ℤ pos 1));
  upper = h.upper;
}
  where
    by : (j : ℕ) → ((j ≡ k) × (coordinate (set region.lower k (value +ℤ pos 1)) j ≡ value +ℤ pos 1)) ⊎ (coordinate (set region.lower k (value +ℤ pos 1)) j ≡ coordinate region.lower j) → coordinate root.lower j ≤ℤ coordinate (set region.lower k (value +ℤ pos 1)) j
    by j (inl g) =
        let at : coordinate root.lower k ≤ℤ coordinate region.lower k = h.lower k in
        let here : coordinate root.lower k ≤ℤ (value +ℤ pos 1) = omega (arith, ints) in
        subst (λ (n : ℤ). coordinate root.lower j ≤ℤ n) (sym g.1) (subst (λ (i : ℕ). coordinate root.lower i ≤ℤ (value +ℤ pos 1)) (sym g.0) here)
    by j (inr g) = subst (λ (n : ℤ). coordinate root.lower j ≤ℤ n) (sym g) (h.lower j)

-- a region at a place of what comes after the nodes
region_after : (nodes more : List Node) (j n : ℕ) (node : Node) (region : Region) → slice_get more j ≡ Some node → n ≡ length nodes + j → node.region ≡ region → HasRegion (nodes ++ more) n region
region_after nodes more j n node region at place same = record {
  node = node;
  is_node = subst (λ (k : ℕ). slice_get (nodes ++ more) k ≡ Some node) (sym place) (at_after nodes more j node at);
  region_is = same;
}

-- what a closing needs of the nodes that it opens, after those that are there
record IsOpened (d : Decomposition) (root : Region) (cuts : List Cut) (nodes later : List Node) (number at : ℕ) (h : How) (more : List Node) : Type 0 where
  ended : (region : Region) → HasRegion nodes number region → IsEnd d cuts later number region (length nodes) h
  fresh : (j : ℕ) (z : Node) → slice_get more j ≡ Some z → (z.closing ≡ None) × IsInside root z.region × IsParent later number (length nodes + j)

-- the node with this number is open, and is closed so; the nodes that this opens come after all others
tree_closed : (d : Decomposition) (root : Region) (cuts : List Cut) (nodes : List Node) (number at : ℕ) (h : How) (node : Node) (more : List Node)
    → IsAt nodes number node → node.closing ≡ None
    → IsOpened d root cuts nodes (changed (closed_by h at (length nodes)) nodes number ++ more) number at h more
    → IsTree d root cuts nodes → IsTree d root cuts (changed (closed_by h at (length nodes)) nodes number ++ more)
tree_closed d root cuts nodes number at h node more is_node open_still opened t = record {
  first = region_kept nodes later 0 root kept t.first;
  each = λ n z is. each n z (at_either closed more n z is);
  inside = λ n z is. inside n z (at_either closed more n z is);
  parents = λ n z is. parents n z (at_either closed more (suc n) z is);
}
  where
    closed : List Node
    closed = changed (closed_by h at (length nodes)) nodes number

    later : List Node
    later = closed ++ more

    kept : AreKept nodes later
    kept = kept_with nodes closed more (kept_changed (closed_by h at (length nodes)) nodes number (λ x. refl))

    same_count : length closed ≡ length nodes
    same_count = length-changed (closed_by h at (length nodes)) nodes number

    kept_closed : AreKeptClosed nodes later
    kept_closed n x c is closing = by (changed_item (closed_by h at (length nodes)) nodes number n x is)
      where
        by : ((y : Node) × (slice_get closed n ≡ Some y) × ((y ≡ x) ⊎ ((n ≡ number) × (y ≡ closed_by h at (length nodes) x)))) → (z : Node) × IsAt later n z × (z.closing ≡ Some c)
        by (y, is_y, inl e) = (y, at_kept closed more n y is_y, ap (λ (u : Node). u.closing) e ∙ closing)
        by (y, is_y, inr e) =
            let there : IsAt nodes number x = subst (λ (k : ℕ). IsAt nodes k x) e.0 is in
            let own : node ≡ x = at_one nodes number node x is_node there in
            let none : x.closing ≡ None = subst (λ (u : Node). u.closing ≡ None) own open_still in
            let both : None ≡ Some c = sym none ∙ closing in
            absurd (cc)

    -- the nodes that were there
    old : (n : ℕ) (z : Node) → slice_get closed n ≡ Some z → (x : Node) × IsAt nodes n x × ((z ≡ x) ⊎ ((n ≡ number) × (z ≡ closed_by h at (length nodes) x)))
    old n z is = at_changed (closed_by h at (length nodes)) nodes number n z is

    each : (n : ℕ) (z : Node) → (slice_get closed n ≡ Some z) ⊎ ((j : ℕ) × (n ≡ length closed + j) × (slice_get more j ≡ Some z)) → IsEndedRight d cuts later n z.region z.closing
    each n z (inl is) = by (old n z is)
      where
        by : ((x : Node) × IsAt nodes n x × ((z ≡ x) ⊎ ((n ≡ number) × (z ≡ closed_by h at (length nodes) x)))) → IsEndedRight d cuts later n z.region z.closing
        by (x, is_x, inl e) = subst (λ (u : Node). IsEndedRight d cuts later n u.region u.closing) (sym e)
            (end_grown d cuts cuts nodes later n x.region x.closing kept (longer_same cuts) (t.each n x is_x))
        by (x, is_x, inr e) =
            let here : HasRegion nodes number x.region = record { node = x; is_node = subst (λ (k : ℕ). IsAt nodes k x) e.0 is_x; region_is = refl } in
            let end : IsEnd d cuts later number x.region (length nodes) h = opened.ended x.region here in
            subst (λ (u : Node). IsEndedRight d cuts later n u.region u.closing) (sym e.1) (subst (λ (k : ℕ). IsEnd d cuts later k x.region (length nodes) h) (sym e.0) end)
    each n z (inr (j, place, is)) =
        let f : (z.closing ≡ None) × IsInside root z.region × IsParent later number (length nodes + j) = opened.fresh j z is in
        subst (λ (c : Option Closing). IsEndedRight d cuts later n z.region c) (sym f.0) tt

    inside : (n : ℕ) (z : Node) → (slice_get closed n ≡ Some z) ⊎ ((j : ℕ) × (n ≡ length closed + j) × (slice_get more j ≡ Some z)) → IsInside root z.region
    inside n z (inl is) = by (old n z is)
      where
        by : ((x : Node) × IsAt nodes n x × ((z ≡ x) ⊎ ((n ≡ number) × (z ≡ closed_by h at (length nodes) x)))) → IsInside root z.region
        by (x, is_x, inl e) = subst (λ (u : Node). IsInside root u.region) (sym e) (t.inside n x is_x)
        by (x, is_x, inr e) = subst (λ (u : Node). IsInside root u.region) (sym e.1) (t.inside n x is_x)
    inside n z (inr (j, place, is)) =
        let f : (z.closing ≡ None) × IsInside root z.region × IsParent later number (length nodes + j) = opened.fresh j z is in
        f.1

    parents : (n : ℕ) (z : Node) → (slice_get closed (suc n) ≡ Some z) ⊎ ((j : ℕ) × (suc n ≡ length closed + j) × (slice_get more j ≡ Some z)) → (m : ℕ) × IsParent later m (suc n)
    parents n z (inl is) =
        let o : (x : Node) × IsAt nodes (suc n) x × ((z ≡ x) ⊎ ((suc n ≡ number) × (z ≡ closed_by h at (length nodes) x))) = old (suc n) z is in
        let p : (m : ℕ) × IsParent nodes m (suc n) = t.parents n o.0 o.1 in
        (p.0, parent_kept nodes later p.0 (suc n) kept_closed p.1)
    parents n z (inr (j, place, is)) =
        let f : (z.closing ≡ None) × IsInside root z.region × IsParent later number (length nodes + j) = opened.fresh j z is in
        let own : length nodes + j ≡ suc n = ap (λ k. k + j) (sym same_count) ∙ sym place in
        (number, subst (IsParent later number) own f.2)

-- ---- a split
open_end : (o : Option Closing) → is_none o ≡ true → o ≡ None
open_end None h = refl
open_end (Some c) h = absurd (cc)

-- the region of the node with this number
own_region : (nodes : List Node) (number : ℕ) (node : Node) (region : Region) → IsAt nodes number node → HasRegion nodes number region → node.region ≡ region
own_region nodes number node region is h = ap (λ (u : Node). u.region) (at_one nodes number node h.node is h.is_node) ∙ h.region_is

-- the node is the parent of what comes after the nodes at the first two places
parent_of : (nodes more : List Node) (number at front : ℕ) (basis : List ℕ) (position : ℕ) (value : ℤ) (node : Node) (n : ℕ) → IsAt nodes number node → (n ≡ length nodes) ⊎ (n ≡ suc (length nodes))
    → IsParent (changed (closed_by (how.Split front basis position value) at (length nodes)) nodes number ++ more) number n
parent_of nodes more number at front basis position value node n is side = record {
  node = closed_by h at (length nodes) node;
  is_node = at_kept (changed (closed_by h at (length nodes)) nodes number) more number (closed_by h at (length nodes) node) (changed_here (closed_by h at (length nodes)) nodes number node is);
  closing = record { how = h; at = at; kids = length nodes };
  closed = refl;
  front = front;
  basis = basis;
  position = position;
  value = value;
  split = refl;
  side = side;
}
  where
    h : How
    h = how.Split front basis position value

split_opened : (d : Decomposition) (root : Region) (t : State) (number front : ℕ) (basis : List ℕ) (position : ℕ) (value : ℤ) (may : IsSplitStep d t number front basis position value) → IsTree d root t.cuts t.nodes
    → IsOpened d root t.cuts t.nodes
    (changed (closed_by (how.Split front basis position value) t.entries (length t.nodes)) t.nodes number ++ sides_opened d (length t.cuts) (how.Split front basis position value) (Some may.waiting))
    number t.entries (how.Split front basis position value) (sides_opened d (length t.cuts) (how.Split front basis position value) (Some may.waiting))
split_opened d root t number front basis position value may tree = record { ended = ended; fresh = fresh }
  where
    k : ℕ
    k = integer_at d.model d.part position

    w : Node
    w = may.waiting

    left : Node
    left = side (length t.cuts) (below k value w.region)

    right : Node
    right = side (length t.cuts) (above k value w.region)

    h : How
    h = how.Split front basis position value

    closed : List Node
    closed = changed (closed_by h t.entries (length t.nodes)) t.nodes number

    later : List Node
    later = closed ++ left ∷ right ∷ []

    count : length closed ≡ length t.nodes
    count = length-changed (closed_by h t.entries (length t.nodes)) t.nodes number

    ended : (region : Region) → HasRegion t.nodes number region → IsEnd d t.cuts later number region (length t.nodes) h
    ended region here =
        let same : w.region ≡ region = own_region t.nodes number w region may.waits.is_node here in
        record {
          later = slice_get_within t.nodes number w may.waits.is_node;
          is_split = splits_at d.model d.part may.first.place position value may.first.inside may.first.position_is;
          at_least = subst (λ (r : Region). (coordinate r.lower k) ≤ℤ value) same may.at_least;
          below_upper = subst (λ (r : Region). value <ℤ (coordinate r.upper k)) same may.below;
          left = region_after closed (left ∷ right ∷ []) 0 (length t.nodes) left (below k value region) refl (omega (arith, count)) (ap (below k value) same);
          right = region_after closed (left ∷ right ∷ []) 1 (suc (length t.nodes)) right (above k value region) refl (omega (arith, count)) (ap (above k value) same);
        }

    inside : IsInside root w.region
    inside = tree.inside number w may.waits.is_node

    fresh : (j : ℕ) (z : Node) → slice_get (left ∷ right ∷ []) j ≡ Some z → (z.closing ≡ None) × IsInside root z.region × IsParent later number (length t.nodes + j)
    fresh zero z is =
        let same : left ≡ z = cc in (
          subst (λ (u : Node). u.closing ≡ None) same refl,
          subst (λ (u : Node). IsInside root u.region) same (inside_below root w.region k value may.below inside),
          parent_of t.nodes (left ∷ right ∷ []) number t.entries front basis position value w (length t.nodes + 0) may.waits.is_node (inl (omega arith)),
        )
    fresh (suc zero) z is =
        let same : right ≡ z = cc in (
          subst (λ (u : Node). u.closing ≡ None) same refl,
          subst (λ (u : Node). IsInside root u.region) same (inside_above root w.region k value may.at_least inside),
          parent_of t.nodes (left ∷ right ∷ []) number t.entries front basis position value w (length t.nodes + 1) may.waits.is_node (inr (omega arith)),
        )
    fresh (suc (suc j)) z is = absurd (cc)

-- ---- a leaf
leaf_opened : (d : Decomposition) (root : Region) (t : State) (number front : ℕ) (leaf : Leaf) → IsLeafStep d t number front leaf
    → IsOpened d root t.cuts t.nodes (changed (closed_by (how.Leaf front leaf) t.entries (length t.nodes)) t.nodes number ++ []) number t.entries (how.Leaf front leaf) []
leaf_opened d root t number front leaf may = record { ended = ended; fresh = λ j z is. absurd (cc) }
  where
    ended : (region : Region) → HasRegion t.nodes number region → IsLeafAt d t.cuts region front leaf
    ended region here =
        let same : may.node.region ≡ region = own_region t.nodes number may.node region may.is_node here in
        record {
          front_is = may.at_most;
          holds = subst (λ (r : Region). LeafHolds d.model d.part (box_of r) (take front t.cuts) leaf) same may.holds;
          fits = subst (λ (r : Region). FitsLeaf d.model d.part (box_of r) (take front t.cuts) leaf) same may.fits;
        }

-- ---- each event
close_tree : (d : Decomposition) (root : Region) (t : State) (number : ℕ) (h : How) → IsClosing d t number h → IsTree d root t.cuts t.nodes
    → IsTree d root t.cuts (changed (closed_by h t.entries (length t.nodes)) t.nodes number ++ sides_opened d (length t.cuts) h (slice_get t.nodes number))
close_tree d root t number (how.Split front basis position value) may tree =
    let h : How = how.Split front basis position value in
    subst (λ (o : Option Node). IsTree d root t.cuts (changed (closed_by h t.entries (length t.nodes)) t.nodes number ++ sides_opened d (length t.cuts) h o)) (sym may.waits.is_node)
    (tree_closed d root t.cuts t.nodes number t.entries h may.waiting (sides_opened d (length t.cuts) h (Some may.waiting)) may.waits.is_node (open_end may.waiting.closing may.waits.stands_open)
    (split_opened d root t number front basis position value may tree) tree)
close_tree d root t number (how.Leaf front leaf) may tree =
    tree_closed d root t.cuts t.nodes number t.entries (how.Leaf front leaf) may.node [] may.is_node (open_end may.node.closing may.stands_open) (leaf_opened d root t number front leaf may) tree

tree_step : (d : Decomposition) (budget : ℕ) (root : Region) (t : State) (e : Event) → MayFollow d budget t e → IsTree d root t.cuts t.nodes → IsTree d root (effect d t e).cuts (effect d t e).nodes
tree_step d budget root t (event.Floor block basis cut) may h = tree_kept d root t.cuts (t.cuts ++ cut ∷ []) t.nodes t.nodes (kept_same t.nodes) (steady_same t.nodes) (closed_same t.nodes) (longer_with t.cuts (cut ∷ [])) h
tree_step d budget root t (event.Ray block direction) may h = h
tree_step d budget root t (event.Post node front point leaf) may h = tree_kept d root t.cuts t.cuts t.nodes (changed (posted_by (length t.posts)) t.nodes node)
    (kept_changed (posted_by (length t.posts)) t.nodes node (λ x. refl)) (steady_changed (posted_by (length t.posts)) t.nodes node (λ x. refl) (λ x. refl)) (closed_changed (posted_by (length t.posts)) t.nodes node (λ x. refl)) (longer_same t.cuts) h
tree_step d budget root t (event.Append post basis cut) may h = tree_kept d root t.cuts (t.cuts ++ cut ∷ []) t.nodes (freed_where_live (slice_get t.posts post) (length t.cuts) t.nodes)
    (kept_freed (slice_get t.posts post) (length t.cuts) t.nodes) (steady_freed (slice_get t.posts post) (length t.cuts) t.nodes) (closed_freed (slice_get t.posts post) (length t.cuts) t.nodes) (longer_with t.cuts (cut ∷ [])) h
tree_step d budget root t (event.Again post basis place) may h = tree_kept d root t.cuts t.cuts t.nodes (freed_where_live (slice_get t.posts post) place t.nodes)
    (kept_freed (slice_get t.posts post) place t.nodes) (steady_freed (slice_get t.posts post) place t.nodes) (closed_freed (slice_get t.posts post) place t.nodes) (longer_same t.cuts) h
tree_step d budget root t (event.Fill post block y) may h = h
tree_step d budget root t (event.Incumbent post) may h = h
tree_step d budget root t (event.Close number w) may h = close_tree d root t number w may.closing h
tree_step d budget root t (event.Stop reason) may h = h

-- ---- all histories
le_same : (a : ℤ) → a ≤ℤ a
le_same a = omega (arith, ints)

begins : (d : Decomposition) (root : Region) → IsTree d root [] (side 0 root ∷ [])
begins d root = record { first = record { node = side 0 root; is_node = refl; region_is = refl }; each = each; inside = inside; parents = λ n z is. absurd (cc) }
  where
    each : (n : ℕ) (z : Node) → IsAt (side 0 root ∷ []) n z → IsEndedRight d [] (side 0 root ∷ []) n z.region z.closing
    each zero z is =
        let same : side 0 root ≡ z = cc in
        subst (λ (u : Node). IsEndedRight d [] (side 0 root ∷ []) 0 u.region u.closing) same tt
    each (suc n) z is = absurd (cc)

    inside : (n : ℕ) (z : Node) → IsAt (side 0 root ∷ []) n z → IsInside root z.region
    inside zero z is =
        let same : side 0 root ≡ z = cc in
        subst (λ (u : Node). IsInside root u.region) same (record { lowers = refl; uppers = refl; lower = λ k. le_same (coordinate root.lower k); upper = λ k. le_same (coordinate root.upper k) })
    inside (suc n) z is = absurd (cc)

pub trees_are_whole : TreesAreWhole
trees_are_whole d budget root es t r = histories_grow d budget root (λ es u. IsTree d root u.cuts u.nodes) (begins d root)
    (λ before u x replayed step old. tree_step d budget root u x.event step.may old) es t r
