-- How many nodes may still come, after each event.
use Rattle.std.proofs.Common.{◌≡◌, refl, sym, ◌∙◌, ap, subst, ℕ, zero, suc, ◌+◌, ◌-◌, ◌*◌, ◌<◌, ◌≤◌, List, [], ◌∷◌, ◌++◌, length, arith, ℤ, pos, negsuc, ◌+ℤ◌, ◌-ℤ◌, ◌≤ℤ◌, ◌<ℤ◌}
use Rattle.std.proofs.lemmas.Int.{ints}
use Rattle.std.specs.Prelude.{Option, Some, None, Bool, true, false, cond, set}
use Rattle.std.specs.List.{slice_get}
use Rattle.std.proofs.Math.Nat.{add-mul, mul-add, one-le-mul}
use Rattle.std.proofs.lemmas.Option.{slice_get_within}
use Rattle.bz_model.specs.Points.{coordinate}
use Rattle.bz_model.specs.Parting.{integers_of}
use Rattle.bz_model.specs.Splits.{Decomposition}
use Rattle.bz_tree.specs.declared.Leaf.{Leaf}
use Rattle.bz_tree.specs.Integers.{integer_at}
use Rattle.bz_tree.specs.Trees.{IsSplitOf}
use Rattle.bz_event.specs.declared.events.Event.{Event}
use Rattle.bz_event.specs.declared.events.Event.TheVariants as event
use Rattle.bz_event.specs.declared.events.How.{How}
use Rattle.bz_event.specs.declared.events.How.TheVariants as how
use Rattle.bz_history.specs.declared.state.Post.{Post}
use Rattle.bz_history.specs.declared.state.Region.{Region}
use Rattle.bz_history.specs.Histories.{IsRootRegion}
use Rattle.bz_history.specs.Measures.{NodesAreFew, all_nodes_below, choices, count_over, nodes_below, points_in, points_of}
use Rattle.bz_history.specs.declared.state.Node.{Node}
use Rattle.bz_history.specs.States.{State, above, below, changed, closed_by, effect, freed_by, freed_where_live, is_live, is_open, posted_by, side, sides_opened}
use Rattle.bz_history.specs.Steps.{IsClosing, IsLeafStep, IsSplitStep, MayFollow}
use Rattle.bz_history.specs.Trees.{IsInside, IsTree}
use Rattle.bz_history.proofs.Growing.{histories_grow}
use Rattle.bz_history.proofs.SplitColumns.{splits_at}
use Rattle.bz_history.proofs.TreeSteps.{trees_are_whole}

-- ---- whole numbers between two ends
count_is : (z : ℤ) → (pos 0) ≤ℤ z → pos (count_over z) ≡ z +ℤ pos 1
count_is (pos n) h = omega (arith, ints)
count_is (negsuc n) h = absurd (omega (arith, ints))

choices_is : (l u : ℤ) → l ≤ℤ u → pos (choices l u) ≡ (u -ℤ l) +ℤ pos 1
choices_is l u h = count_is (u -ℤ l) (omega (arith, ints))

count_some : (z : ℤ) → 1 ≤ count_over z
count_some (pos n) = omega arith
count_some (negsuc n) = omega arith

choices_split : (l v u : ℤ) → l ≤ℤ v → v <ℤ u → choices l v + choices (v +ℤ pos 1) u ≡ choices l u
choices_split l v u least less =
    let a : pos (choices l v) ≡ (v -ℤ l) +ℤ pos 1 = choices_is l v least in
    let b : pos (choices (v +ℤ pos 1) u) ≡ (u -ℤ (v +ℤ pos 1)) +ℤ pos 1 = choices_is (v +ℤ pos 1) u (omega (arith, ints)) in
    let c : pos (choices l u) ≡ (u -ℤ l) +ℤ pos 1 = choices_is l u (omega (arith, ints)) in
    omega (arith, ints, a, b, c)

-- ---- boxes
pub points_some : (ls us : List ℤ) → 1 ≤ points_in ls us
points_some [] us = omega arith
points_some (l ∷ ls) [] = omega arith
points_some (l ∷ ls) (u ∷ us) = one-le-mul (count_some (u -ℤ l)) (points_some ls us)

-- a split parts the whole points of a box
points_split : (ls us : List ℤ) (k : ℕ) (v : ℤ) → k < length ls → k < length us → coordinate ls k ≤ℤ v → v <ℤ coordinate us k
    → points_in ls (set us k v) + points_in (set ls k (v +ℤ pos 1)) us ≡ points_in ls us
points_split [] us k v inside_l inside_u least less = absurd (omega arith)
points_split (l ∷ ls) [] k v inside_l inside_u least less = absurd (omega arith)
points_split (l ∷ ls) (u ∷ us) zero v inside_l inside_u least less =
    sym (add-mul (choices l v) (choices (v +ℤ pos 1) u) (points_in ls us)) ∙ ap (λ k. k * points_in ls us) (choices_split l v u least less)
points_split (l ∷ ls) (u ∷ us) (suc k) v inside_l inside_u least less =
    let rest : points_in ls (set us k v) + points_in (set ls k (v +ℤ pos 1)) us ≡ points_in ls us = points_split ls us k v (omega arith) (omega arith) least less in
    sym (mul-add (choices l u) (points_in ls (set us k v)) (points_in (set ls k (v +ℤ pos 1)) us)) ∙ ap (λ k. choices l u * k) rest

-- ---- sums over nodes
below-append : (xs ys : List Node) → all_nodes_below (xs ++ ys) ≡ all_nodes_below xs + all_nodes_below ys
below-append [] ys = omega arith
below-append (x ∷ xs) ys =
    let rest : all_nodes_below (xs ++ ys) ≡ all_nodes_below xs + all_nodes_below ys = below-append xs ys in
    omega arith

below-changed : (f : Node → Node) (nodes : List Node) (n : ℕ) (x : Node) → slice_get nodes n ≡ Some x → all_nodes_below (changed f nodes n) + nodes_below x ≡ all_nodes_below nodes + nodes_below (f x)
below-changed f [] n x is = absurd (cc)
below-changed f (y ∷ ys) zero x is =
    let same : y ≡ x = cc in
    let old : nodes_below y ≡ nodes_below x = ap nodes_below same in
    let new : nodes_below (f y) ≡ nodes_below (f x) = ap (λ (z : Node). nodes_below (f z)) same in
    omega arith
below-changed f (y ∷ ys) (suc n) x is =
    let rest : all_nodes_below (changed f ys n) + nodes_below x ≡ all_nodes_below ys + nodes_below (f x) = below-changed f ys n x is in
    omega arith

below-kept : (f : Node → Node) (nodes : List Node) (n : ℕ) → ((x : Node) → nodes_below (f x) ≡ nodes_below x) → all_nodes_below (changed f nodes n) ≡ all_nodes_below nodes
below-kept f [] n same = refl
below-kept f (y ∷ ys) zero same = ap (λ k. k + all_nodes_below ys) (same y)
below-kept f (y ∷ ys) (suc n) same = ap (λ k. nodes_below y + k) (below-kept f ys n same)

-- ---- nodes that stay as they are
below-where : (b : Bool) (nodes later : List Node) → all_nodes_below later ≡ all_nodes_below nodes → all_nodes_below (cond b later nodes) ≡ all_nodes_below nodes
below-where true nodes later h = h
below-where false nodes later h = refl

below-freed : (o : Option Post) (number : ℕ) (nodes : List Node) → all_nodes_below (freed_where_live o number nodes) ≡ all_nodes_below nodes
below-freed None number nodes = refl
below-freed (Some post) number nodes = below-where (is_live post) nodes (changed (freed_by number) nodes post.node) (below-kept (freed_by number) nodes post.node (λ x. refl))

-- ---- a node is closed
-- an open node counts as much as its box allows
open_below : (node : Node) → is_open node ≡ true → nodes_below node ≡ points_of node.region + (points_of node.region - 1)
open_below node stands = ap (λ b. cond b (points_of node.region + (points_of node.region - 1)) 1) stands

closed_split : (d : Decomposition) (root : Region) (t : State) (number front : ℕ) (basis : List ℕ) (position : ℕ) (value : ℤ) (may : IsSplitStep d t number front basis position value) → IsTree d root t.cuts t.nodes → IsRootRegion d.model root
    → all_nodes_below (changed (closed_by (how.Split front basis position value) t.entries (length t.nodes)) t.nodes number ++ sides_opened d (length t.cuts) (how.Split front basis position value) (Some may.waiting)) ≡ all_nodes_below t.nodes
closed_split d root t number front basis position value may tree is_root =
    let split : IsSplitOf d.model d.part k position value (value +ℤ pos 1) = splits_at d.model d.part may.first.place position value may.first.inside may.first.position_is in
    let there : k < length (integers_of d.model) = slice_get_within (integers_of d.model) k split.column split.is_column in
    let inside : IsInside root w.region = tree.inside number w may.waits.is_node in
    let lowers : length w.region.lower ≡ length (integers_of d.model) = inside.lowers ∙ is_root.is_root.lowers in
    let uppers : length w.region.upper ≡ length (integers_of d.model) = inside.uppers ∙ is_root.is_root.uppers in
    let parted : points_of (below k value w.region) + points_of (above k value w.region) ≡ points_of w.region = points_split w.region.lower w.region.upper k value (omega arith) (omega arith) may.at_least may.below in
    let some_l : 1 ≤ points_of (below k value w.region) = points_some w.region.lower (set w.region.upper k value) in
    let some_r : 1 ≤ points_of (above k value w.region) = points_some (set w.region.lower k (value +ℤ pos 1)) w.region.upper in
    let own : nodes_below w ≡ points_of w.region + (points_of w.region - 1) = open_below w may.waits.stands_open in
    let one : all_nodes_below closed + nodes_below w ≡ all_nodes_below t.nodes + 1 = below-changed (closed_by h t.entries (length t.nodes)) t.nodes number w may.waits.is_node in
    let both : all_nodes_below (closed ++ left ∷ right ∷ []) ≡ all_nodes_below closed + all_nodes_below (left ∷ right ∷ []) = below-append closed (left ∷ right ∷ []) in
    let sides : all_nodes_below (left ∷ right ∷ []) ≡ (points_of (below k value w.region) + (points_of (below k value w.region) - 1)) + ((points_of (above k value w.region) + (points_of (above k value w.region) - 1)) + 0) = refl in
    omega arith
  where
    k : ℕ
    k = integer_at d.model d.part position

    w : Node
    w = may.waiting

    h : How
    h = how.Split front basis position value

    closed : List Node
    closed = changed (closed_by h t.entries (length t.nodes)) t.nodes number

    left : Node
    left = side (length t.cuts) (below k value w.region)

    right : Node
    right = side (length t.cuts) (above k value w.region)

closed_leaf : (d : Decomposition) (t : State) (number front : ℕ) (leaf : Leaf) → IsLeafStep d t number front leaf
    → all_nodes_below (changed (closed_by (how.Leaf front leaf) t.entries (length t.nodes)) t.nodes number ++ []) ≤ all_nodes_below t.nodes
closed_leaf d t number front leaf may =
    let own : nodes_below may.node ≡ points_of may.node.region + (points_of may.node.region - 1) = open_below may.node may.stands_open in
    let some : 1 ≤ points_of may.node.region = points_some may.node.region.lower may.node.region.upper in
    let one : all_nodes_below closed + nodes_below may.node ≡ all_nodes_below t.nodes + 1 = below-changed (closed_by (how.Leaf front leaf) t.entries (length t.nodes)) t.nodes number may.node may.is_node in
    let both : all_nodes_below (closed ++ []) ≡ all_nodes_below closed + 0 = below-append closed [] in
    omega arith
  where
    closed : List Node
    closed = changed (closed_by (how.Leaf front leaf) t.entries (length t.nodes)) t.nodes number

closed_few : (d : Decomposition) (root : Region) (t : State) (number : ℕ) (h : How) → IsClosing d t number h → IsTree d root t.cuts t.nodes → IsRootRegion d.model root
    → all_nodes_below (changed (closed_by h t.entries (length t.nodes)) t.nodes number ++ sides_opened d (length t.cuts) h (slice_get t.nodes number)) ≤ all_nodes_below t.nodes
closed_few d root t number (how.Split front basis position value) may tree is_root =
    subst (λ (o : Option Node). all_nodes_below (changed (closed_by (how.Split front basis position value) t.entries (length t.nodes)) t.nodes number ++ sides_opened d (length t.cuts) (how.Split front basis position value) o) ≤ all_nodes_below t.nodes) (sym may.waits.is_node)
    (at_most (closed_split d root t number front basis position value may tree is_root))
  where
    at_most : {a b : ℕ} → a ≡ b → a ≤ b
    at_most e = omega (arith, e)
closed_few d root t number (how.Leaf front leaf) may tree is_root = closed_leaf d t number front leaf may

-- ---- each event
few_step : (d : Decomposition) (budget : ℕ) (root : Region) (t : State) (e : Event) → MayFollow d budget t e → IsTree d root t.cuts t.nodes → IsRootRegion d.model root → all_nodes_below t.nodes + 1 ≤ 2 * points_of root → all_nodes_below (effect d t e).nodes + 1 ≤ 2 * points_of root
few_step d budget root t (event.Floor block basis cut) may tree is_root h = h
few_step d budget root t (event.Ray block direction) may tree is_root h = h
few_step d budget root t (event.Post node front point leaf) may tree is_root h =
    let same : all_nodes_below (changed (posted_by (length t.posts)) t.nodes node) ≡ all_nodes_below t.nodes = below-kept (posted_by (length t.posts)) t.nodes node (λ x. refl) in
    omega arith
few_step d budget root t (event.Append post basis cut) may tree is_root h =
    let same : all_nodes_below (freed_where_live (slice_get t.posts post) (length t.cuts) t.nodes) ≡ all_nodes_below t.nodes = below-freed (slice_get t.posts post) (length t.cuts) t.nodes in
    omega arith
few_step d budget root t (event.Again post basis place) may tree is_root h =
    let same : all_nodes_below (freed_where_live (slice_get t.posts post) place t.nodes) ≡ all_nodes_below t.nodes = below-freed (slice_get t.posts post) place t.nodes in
    omega arith
few_step d budget root t (event.Fill post block y) may tree is_root h = h
few_step d budget root t (event.Incumbent post) may tree is_root h = h
few_step d budget root t (event.Close number w) may tree is_root h =
    let fewer : all_nodes_below (changed (closed_by w t.entries (length t.nodes)) t.nodes number ++ sides_opened d (length t.cuts) w (slice_get t.nodes number)) ≤ all_nodes_below t.nodes = closed_few d root t number w may.closing tree is_root in
    omega arith
few_step d budget root t (event.Stop reason) may tree is_root h = h

pub nodes_are_few : NodesAreFew
nodes_are_few d budget root es t r = histories_grow d budget root (λ es u. all_nodes_below u.nodes + 1 ≤ 2 * points_of root) begins
    (λ before u x replayed step old. few_step d budget root u x.event step.may (trees_are_whole d budget root before u replayed) r.root_is old) es t r
  where
    begins : all_nodes_below (side 0 root ∷ []) + 1 ≤ 2 * points_of root
    begins =
        let some : 1 ≤ points_of root = points_some root.lower root.upper in
        let first : all_nodes_below (side 0 root ∷ []) ≡ (points_of root + (points_of root - 1)) + 0 = refl in
        omega arith
