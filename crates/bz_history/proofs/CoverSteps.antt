-- Nothing better is lost by any event.
use Rattle.std.proofs.Common.{◌≡◌, refl, sym, ◌∙◌, ap, subst, ℕ, zero, suc, ◌+◌, ◌<◌, List, [], ◌∷◌, ◌++◌, length, inl, inr, arith, ℤ, pos, ◌+ℤ◌, ◌*ℤ◌, ◌≤ℤ◌, ◌<ℤ◌}
use Rattle.std.proofs.lemmas.Int.{ints}
use Rattle.std.specs.Prelude.{◌⊎◌, Option, Some, None, ◌&&◌, ◌||◌, Bool, true, false, cond, is_none, is_some, not, take}
use Rattle.std.specs.List.{AllByRecursion, list_any, slice_get}
use Rattle.std.proofs.lemmas.Option.{slice_get_within}
use Rattle.bz_algebra.specs.Sums.{dot}
use Rattle.std.proofs.Math.IntN.{*ℤ_comm}
use Rattle.std.proofs.lemmas.Bool.{cases_eq}
use Rattle.bz_algebra.proofs.Ring.{*ℤ_assoc, cancel_lt_right, mul_le_right, mul_lt_left, mul_lt_right, mul_right}
use Rattle.bz_model.specs.declared.Master.{Master}
use Rattle.bz_model.specs.Decomposed.{IsDecomposed}
use Rattle.bz_model.specs.Parting.{inner_cost}
use Rattle.bz_model.specs.Points.{IsFeasible, coordinate}
use Rattle.bz_model.specs.Splits.{Decomposition}
use Rattle.bz_cut.specs.declared.Cut.{Cut}
use Rattle.bz_cut.specs.declared.Mode.{Mode}
use Rattle.bz_cut.specs.declared.Mode.TheVariants as mode
use Rattle.bz_cut.specs.Cuts.{IsValid}
use Rattle.bz_tree.specs.declared.Leaf.{Leaf}
use Rattle.bz_tree.specs.Boxes.{LiesIn}
use Rattle.bz_tree.specs.Integers.{integer_at}
use Rattle.bz_tree.proofs.SplitBoxes.{in_a_side}
use Rattle.bz_pass.proofs.LeavesHold.{leaf_bounds, leaf_empties}
use Rattle.bz_pass.proofs.MasterIntegers.{lies_in_root}
use Rattle.bz_event.specs.declared.events.Event.{Event}
use Rattle.bz_event.specs.declared.events.Event.TheVariants as event
use Rattle.bz_event.specs.declared.events.How.{How}
use Rattle.bz_event.specs.declared.events.How.TheVariants as how
use Rattle.bz_event.specs.Nodes.{value_of}
use Rattle.bz_history.specs.declared.state.Closing.{Closing}
use Rattle.bz_history.specs.declared.state.FallingRay.{FallingRay}
use Rattle.bz_history.specs.declared.state.Node.{Node}
use Rattle.bz_history.specs.declared.state.Post.{Post}
use Rattle.bz_history.specs.declared.state.Region.{Region}
use Rattle.bz_history.specs.Covers.{IsCovered, IsUnbeaten, KeepsBetterPoints, NothingBetterIsLost}
use Rattle.bz_history.specs.Histories.{IsRootRegion}
use Rattle.bz_history.specs.Pools.{cuts_in}
use Rattle.bz_history.specs.Posts.{ArePosts}
use Rattle.bz_history.specs.States.{State, above, below, box_of, changed, changed_at, closed_by, effect, ended_by, filled_by, freed_by, freed_where_live, is_done, is_live, is_open, live_of, mode_for, mode_of, opening, posted_by, posted_point, side, sides_opened}
use Rattle.bz_history.specs.Steps.{IsAt, IsBelow, IsBest, IsBetter, IsClosing, IsIncumbentStep, IsLeafStep, IsSplitStep, MayFollow, ReachesBest}
use Rattle.bz_history.proofs.Growing.{histories_grow}
use Rattle.bz_history.proofs.Lists.{at_after, at_kept, at_one, changed_item}
use Rattle.bz_history.proofs.PoolSteps.{IsEarly, IsPooled, early_of_next, pooled}
use Rattle.bz_history.proofs.PostSteps.{posts_are_right}
use Rattle.bz_history.proofs.SplitColumns.{splits_at}

-- ---- nodes that stay open
-- open nodes stay open, where they are, with their regions
abbrev AreKeptOpen : List Node → List Node → Type 0
AreKeptOpen nodes later = (n : ℕ) (x : Node) → IsAt nodes n x → (z : Node) × IsAt later n z × (z.region ≡ x.region) × (z.closing ≡ x.closing)

open_changed : (f : Node → Node) (nodes : List Node) (i : ℕ) → ((x : Node) → (f x).region ≡ x.region) → ((x : Node) → (f x).closing ≡ x.closing) → AreKeptOpen nodes (changed f nodes i)
open_changed f nodes i region closing n x h = by (changed_item f nodes i n x h)
  where
    by : ((y : Node) × (slice_get (changed f nodes i) n ≡ Some y) × ((y ≡ x) ⊎ ((n ≡ i) × (y ≡ f x)))) → (z : Node) × IsAt (changed f nodes i) n z × (z.region ≡ x.region) × (z.closing ≡ x.closing)
    by (y, at, inl e) = (y, at, ap (λ (u : Node). u.region) e, ap (λ (u : Node). u.closing) e)
    by (y, at, inr e) = (y, at, ap (λ (u : Node). u.region) e.1 ∙ region x, ap (λ (u : Node). u.closing) e.1 ∙ closing x)

open_same : (nodes : List Node) → AreKeptOpen nodes nodes
open_same nodes n x h = (x, h, refl, refl)

open_where : (b : Bool) (nodes later : List Node) → AreKeptOpen nodes later → AreKeptOpen nodes (cond b later nodes)
open_where true nodes later h = h
open_where false nodes later h = open_same nodes

open_freed : (o : Option Post) (number : ℕ) (nodes : List Node) → AreKeptOpen nodes (freed_where_live o number nodes)
open_freed None number nodes = open_same nodes
open_freed (Some post) number nodes = open_where (is_live post) nodes (changed (freed_by number) nodes post.node) (open_changed (freed_by number) nodes post.node (λ x. refl) (λ x. refl))

covered_kept : (d : Decomposition) (nodes later : List Node) (p : List ℤ) (q : ℤ) → AreKeptOpen nodes later → IsCovered d nodes p q → IsCovered d later p q
covered_kept d nodes later p q kept c =
    let k : (z : Node) × IsAt later c.number z × (z.region ≡ c.node.region) × (z.closing ≡ c.node.closing) = kept c.number c.node c.is_node in
    record {
      number = c.number;
      node = k.0;
      is_node = k.1;
      stands_open = ap (λ (o : Option Closing). is_none o) k.3 ∙ c.stands_open;
      lies = subst (λ (r : Region). LiesIn d.model (box_of r) p q) (sym k.2) c.lies;
    }

-- what is covered stays so where the nodes stay open and no other post is best
cover_kept : (d : Decomposition) (t u : State) → AreKeptOpen t.nodes u.nodes → ((p : List ℤ) (q : ℤ) → IsFeasible d.model p q → IsUnbeaten d u p q → IsUnbeaten d t p q) → KeepsBetterPoints d t → KeepsBetterPoints d u
cover_kept d t u kept unbeaten h p q feasible better = covered_kept d t.nodes u.nodes p q kept (h p q feasible (unbeaten p q feasible better))

-- ---- a split
closed_open : (h : How) (at kids : ℕ) (x : Node) → is_open (closed_by h at kids x) ≡ false
closed_open h at kids x = refl

-- the nodes other than the closed one stay open
others_kept : (h : How) (at kids : ℕ) (nodes more : List Node) (number n : ℕ) (x : Node) → IsAt nodes n x → (n ≡ number → ⊥) → (z : Node) × IsAt (changed (closed_by h at kids) nodes number ++ more) n z × (z ≡ x)
others_kept h at kids nodes more number n x is other = by (changed_item (closed_by h at kids) nodes number n x is)
  where
    by : ((y : Node) × (slice_get (changed (closed_by h at kids) nodes number) n ≡ Some y) × ((y ≡ x) ⊎ ((n ≡ number) × (y ≡ closed_by h at kids x)))) → (z : Node) × IsAt (changed (closed_by h at kids) nodes number ++ more) n z × (z ≡ x)
    by (y, at_y, inl e) = (y, at_kept (changed (closed_by h at kids) nodes number) more n y at_y, e)
    by (y, at_y, inr e) = absurd (other e.0)

covered_other : (d : Decomposition) (h : How) (at kids : ℕ) (nodes more : List Node) (number : ℕ) (p : List ℤ) (q : ℤ) (c : IsCovered d nodes p q) → (c.number ≡ number → ⊥) → IsCovered d (changed (closed_by h at kids) nodes number ++ more) p q
covered_other d h at kids nodes more number p q c other =
    let k : (z : Node) × IsAt (changed (closed_by h at kids) nodes number ++ more) c.number z × (z ≡ c.node) = others_kept h at kids nodes more number c.number c.node c.is_node other in
    record {
      number = c.number;
      node = k.0;
      is_node = k.1;
      stands_open = ap is_open k.2 ∙ c.stands_open;
      lies = subst (λ (x : Node). LiesIn d.model (box_of x.region) p q) (sym k.2) c.lies;
    }

-- a fresh node at a place after the others covers what lies in its region
covered_fresh : (d : Decomposition) (nodes more : List Node) (j : ℕ) (z : Node) (p : List ℤ) (q : ℤ) → slice_get more j ≡ Some z → is_open z ≡ true → LiesIn d.model (box_of z.region) p q → IsCovered d (nodes ++ more) p q
covered_fresh d nodes more j z p q is stands lies = record { number = length nodes + j; node = z; is_node = at_after nodes more j z is; stands_open = stands; lies = lies }

split_covered : (d : Decomposition) (t : State) (number front : ℕ) (basis : List ℕ) (position : ℕ) (value : ℤ) (may : IsSplitStep d t number front basis position value) (p : List ℤ) (q : ℤ) → IsFeasible d.model p q → LiesIn d.model (box_of may.waiting.region) p q
    → IsCovered d (changed (closed_by (how.Split front basis position value) t.entries (length t.nodes)) t.nodes number ++ sides_opened d (length t.cuts) (how.Split front basis position value) (Some may.waiting)) p q
split_covered d t number front basis position value may p q feasible lies =
    by (in_a_side d.model d.part (box_of may.waiting.region) k position value (value +ℤ pos 1) p q (splits_at d.model d.part may.first.place position value may.first.inside may.first.position_is) feasible lies)
  where
    k : ℕ
    k = integer_at d.model d.part position

    closed : List Node
    closed = changed (closed_by (how.Split front basis position value) t.entries (length t.nodes)) t.nodes number

    left : Node
    left = side (length t.cuts) (below k value may.waiting.region)

    right : Node
    right = side (length t.cuts) (above k value may.waiting.region)

    by : LiesIn d.model (box_of (below k value may.waiting.region)) p q ⊎ LiesIn d.model (box_of (above k value may.waiting.region)) p q → IsCovered d (closed ++ left ∷ right ∷ []) p q
    by (inl g) = covered_fresh d closed (left ∷ right ∷ []) 0 left p q refl refl g
    by (inr g) = covered_fresh d closed (left ∷ right ∷ []) 1 right p q refl refl g

-- ---- fractions
below_chain : (a d v q w e : ℤ) → (pos 0) <ℤ d → (pos 0) <ℤ q → (pos 0) <ℤ e → IsBelow a q v d → IsBelow v d w e → IsBelow a q w e
below_chain a d v q w e hd hq he h g =
    let first : ((a *ℤ d) *ℤ e) <ℤ ((v *ℤ q) *ℤ e) = mul_lt_right (a *ℤ d) (v *ℤ q) e he h in
    let second : ((v *ℤ e) *ℤ q) <ℤ ((w *ℤ d) *ℤ q) = mul_lt_right (v *ℤ e) (w *ℤ d) q hq g in
    let turned_a : (a *ℤ d) *ℤ e ≡ (a *ℤ e) *ℤ d = mul_right a d e in
    let turned_v : (v *ℤ q) *ℤ e ≡ (v *ℤ e) *ℤ q = mul_right v q e in
    let turned_w : (w *ℤ d) *ℤ q ≡ (w *ℤ q) *ℤ d = mul_right w d q in
    let both : ((a *ℤ e) *ℤ d) <ℤ ((w *ℤ q) *ℤ d) = omega (arith, ints, first, second, turned_a, turned_v, turned_w) in
    cancel_lt_right (a *ℤ e) (w *ℤ q) d (omega (arith, ints)) both

-- a point at which the cost is below a value that the leaf's bound reaches does not meet the leaf
not_bounded : (cost q value den delta bound : ℤ) → (pos 0) <ℤ delta → (pos 0) <ℤ q → (pos 0) <ℤ den → (value *ℤ delta) ≤ℤ (bound *ℤ den) → (bound *ℤ q) ≤ℤ (delta *ℤ cost) → IsBelow cost q value den → ⊥
not_bounded cost q value den delta bound hdelta hq hden reach bounds below =
    let a : ((value *ℤ delta) *ℤ q) ≤ℤ ((bound *ℤ den) *ℤ q) = mul_le_right (value *ℤ delta) (bound *ℤ den) q (omega (arith, ints)) reach in
    let b : ((bound *ℤ q) *ℤ den) ≤ℤ ((delta *ℤ cost) *ℤ den) = mul_le_right (bound *ℤ q) (delta *ℤ cost) den (omega (arith, ints)) bounds in
    let c : (delta *ℤ (cost *ℤ den)) <ℤ (delta *ℤ (value *ℤ q)) = mul_lt_left delta (cost *ℤ den) (value *ℤ q) hdelta below in
    let e : (bound *ℤ den) *ℤ q ≡ (bound *ℤ q) *ℤ den = mul_right bound den q in
    let f : (delta *ℤ cost) *ℤ den ≡ delta *ℤ (cost *ℤ den) = *ℤ_assoc delta cost den in
    let g : (value *ℤ delta) *ℤ q ≡ delta *ℤ (value *ℤ q) = mul_right value delta q ∙ *ℤ_comm (value *ℤ q) delta in
    absurd (omega (arith, ints, a, b, c, e, f, g))

-- ---- posts that keep their points
abbrev pub ArePointsKept : List Post → List Post → Type 0
ArePointsKept posts later = (i : ℕ) (x : Post) → IsAt posts i x → (y : Post) × IsAt later i y × (y.point ≡ x.point)

pub points_same : (posts : List Post) → ArePointsKept posts posts
points_same posts i x h = (x, h, refl)

pub points_changed : (f : Post → Post) (posts : List Post) (n : ℕ) → ((x : Post) → (f x).point ≡ x.point) → ArePointsKept posts (changed f posts n)
points_changed f posts n same i x h = by (changed_item f posts n i x h)
  where
    by : ((y : Post) × (slice_get (changed f posts n) i ≡ Some y) × ((y ≡ x) ⊎ ((i ≡ n) × (y ≡ f x)))) → (y : Post) × IsAt (changed f posts n) i y × (y.point ≡ x.point)
    by (y, at, inl e) = (y, at, ap (λ (u : Post). u.point) e)
    by (y, at, inr e) = (y, at, ap (λ (u : Post). u.point) e.1 ∙ same x)

pub points_ended : (at : ℕ) (posts : List Post) (o : Option ℕ) → ArePointsKept posts (changed_at (ended_by at) posts o)
points_ended at posts None = points_same posts
points_ended at posts (Some i) = points_changed (ended_by at) posts i (λ x. refl)

pub points_with : (posts more : List Post) → ArePointsKept posts (posts ++ more)
points_with posts more i x h = (x, at_kept posts more i x h, refl)

-- who is unbeaten stays so where the mode and the best post stay
unbeaten_kept : (d : Decomposition) (t u : State) (p : List ℤ) (q : ℤ) → mode_of u ≡ mode_of t → u.best ≡ t.best → ArePointsKept t.posts u.posts → IsUnbeaten d u p q → IsUnbeaten d t p q
unbeaten_kept d t u p q way best posts h cost b is =
    let k : (y : Post) × IsAt u.posts is.0 y × (y.point ≡ b.point) = posts is.0 b is.2 in
    subst (λ (point : Master). IsBelow (dot (inner_cost d.model) (coordinate p)) q (value_of d.model d.part point) point.den) k.2
    (h (way ∙ cost) k.0 (is.0, best ∙ is.1, k.1))

-- ---- a leaf
pub all_front : {X : Type 0} (P : X → Type 0) (n : ℕ) (xs : List X) → AllByRecursion P xs → AllByRecursion P (take n xs)
all_front P zero xs h = tt
all_front P (suc n) [] h = tt
all_front P (suc n) (x ∷ xs) h = (h.0, all_front P n xs h.1)

-- with a best post a search that is running is in mode Cost
pub cost_while_running : (stopped closed : Bool) (ray : Option FallingRay) (best : Option ℕ) (i : ℕ) → (stopped || closed || (is_some ray && is_some best)) ≡ false → best ≡ Some i → mode_for ray ≡ mode.Cost
cost_while_running stopped closed None best i h is = refl
cost_while_running true closed (Some ray) best i h is = absurd (cc)
cost_while_running false true (Some ray) best i h is = absurd (cc)
cost_while_running false false (Some ray) best i h is =
    let some : is_some best ≡ true = ap (λ (o : Option ℕ). is_some o) is in
    let both : true ≡ false = sym some ∙ h in
    absurd (cc)

leaf_excludes : (d : Decomposition) (t : State) (number front : ℕ) (leaf : Leaf) (p : List ℤ) (q : ℤ) → IsDecomposed d.model d.part → is_done t ≡ false → AllByRecursion (IsValid d.model d.part) t.cuts → ArePosts d t
    → (may : IsLeafStep d t number front leaf) → IsFeasible d.model p q → IsUnbeaten d t p q → LiesIn d.model (box_of may.node.region) p q → ⊥
leaf_excludes d t number front leaf p q dec running valid posts may feasible better lies = by may.reaches
  where
    fronts : AllByRecursion (IsValid d.model d.part) (take front t.cuts)
    fronts = all_front (IsValid d.model d.part) front t.cuts valid

    by : ReachesBest d t leaf → ⊥
    by (inl empty) = leaf_empties d.model d.part (box_of may.node.region) (take front t.cuts) leaf p q dec fronts may.holds empty feasible lies
    by (inr (best, is_best, positive, reach)) =
        let cost : mode_of t ≡ mode.Cost = cost_while_running (is_some t.stop) (not (list_any is_open t.nodes)) t.ray t.best is_best.0 running is_best.1 in
        let bounds = leaf_bounds d.model d.part (box_of may.node.region) (take front t.cuts) leaf p q dec fronts may.holds feasible lies in
        not_bounded (dot (inner_cost d.model) (coordinate p)) q (value_of d.model d.part best.point) best.point.den leaf.delta leaf.bound positive feasible.positive
        ((posts is_best.0 best is_best.2).posted.shape.den) reach bounds (better cost best is_best)

-- ---- each event
close_cover : (d : Decomposition) (t : State) (number : ℕ) (h : How) → IsDecomposed d.model d.part → is_done t ≡ false → AllByRecursion (IsValid d.model d.part) t.cuts → ArePosts d t → IsClosing d t number h → KeepsBetterPoints d t
    → (p : List ℤ) (q : ℤ) → IsFeasible d.model p q → IsUnbeaten d t p q
    → IsCovered d (changed (closed_by h t.entries (length t.nodes)) t.nodes number ++ sides_opened d (length t.cuts) h (slice_get t.nodes number)) p q
close_cover d t number (how.Split front basis position value) dec running valid posts may old p q feasible better = elim (cases_eq c.number number) [ inl e ↦ here e | inr other ↦ covered_other d (how.Split front basis position value) t.entries (length t.nodes) t.nodes (sides_opened d (length t.cuts) (how.Split front basis position value) (slice_get t.nodes number)) number p q c other ]
  where
    c : IsCovered d t.nodes p q
    c = old p q feasible better

    here : c.number ≡ number → IsCovered d (changed (closed_by (how.Split front basis position value) t.entries (length t.nodes)) t.nodes number ++ sides_opened d (length t.cuts) (how.Split front basis position value) (slice_get t.nodes number)) p q
    here e =
        let own : c.node ≡ may.waiting = at_one t.nodes number c.node may.waiting (subst (λ (k : ℕ). IsAt t.nodes k c.node) e c.is_node) may.waits.is_node in
        let lies : LiesIn d.model (box_of may.waiting.region) p q = subst (λ (x : Node). LiesIn d.model (box_of x.region) p q) own c.lies in
        subst (λ (o : Option Node). IsCovered d (changed (closed_by (how.Split front basis position value) t.entries (length t.nodes)) t.nodes number ++ sides_opened d (length t.cuts) (how.Split front basis position value) o) p q) (sym may.waits.is_node)
        (split_covered d t number front basis position value may p q feasible lies)
close_cover d t number (how.Leaf front leaf) dec running valid posts may old p q feasible better = elim (cases_eq c.number number) [ inl e ↦ absurd (here e) | inr other ↦ covered_other d (how.Leaf front leaf) t.entries (length t.nodes) t.nodes [] number p q c other ]
  where
    c : IsCovered d t.nodes p q
    c = old p q feasible better

    here : c.number ≡ number → ⊥
    here e =
        let own : c.node ≡ may.node = at_one t.nodes number c.node may.node (subst (λ (k : ℕ). IsAt t.nodes k c.node) e c.is_node) may.is_node in
        leaf_excludes d t number front leaf p q dec running valid posts may feasible better (subst (λ (x : Node). LiesIn d.model (box_of x.region) p q) own c.lies)

-- where no post was made there is no best one
none_best : (t : State) (best : Post) → length t.posts ≡ 0 → IsBest t best → ⊥
none_best t best none is =
    let inside : is.0 < length t.posts = slice_get_within t.posts is.0 best is.2 in
    absurd (omega arith)

-- a better post becomes the best
incumbent_unbeaten : (d : Decomposition) (t : State) (number : ℕ) (may : IsIncumbentStep d t number) → ArePosts d t → (p : List ℤ) (q : ℤ) → IsFeasible d.model p q → IsUnbeaten d (effect d t (event.Incumbent number)) p q → IsUnbeaten d t p q
incumbent_unbeaten d t number may posts p q feasible h cost b is =
    let new : IsBelow (dot (inner_cost d.model) (coordinate p)) q (value_of d.model d.part may.post.point) may.post.point.den = h cost may.post (number, refl, may.is_post) in
    let better : IsBetter d t mode.Cost (value_of d.model d.part may.post.point) may.post.point.den = subst (λ (w : Mode). IsBetter d t w (value_of d.model d.part may.post.point) may.post.point.den) cost may.better in
    below_chain (dot (inner_cost d.model) (coordinate p)) may.post.point.den (value_of d.model d.part may.post.point) q (value_of d.model d.part b.point) b.point.den
    (posts number may.post may.is_post).posted.shape.den feasible.positive (posts is.0 b is.2).posted.shape.den new (better b is)

cover_step : (d : Decomposition) (budget : ℕ) (cs : List Cut) (t : State) (e : Event) → IsDecomposed d.model d.part → is_done t ≡ false → MayFollow d budget t e → IsPooled d cs t → ArePosts d t → KeepsBetterPoints d t → KeepsBetterPoints d (effect d t e)
cover_step d budget cs t (event.Floor block basis cut) dec running may pool posts h = h
cover_step d budget cs t (event.Ray block direction) dec running may pool posts h =
    let early : IsEarly t = early_of_next d cs t block may.next pool in
    λ p q feasible better. h p q feasible (λ cost b is. absurd (none_best t b early.no_posts is))
cover_step d budget cs t (event.Post node front point leaf) dec running may pool posts h =
    cover_kept d t (effect d t (event.Post node front point leaf)) (open_changed (posted_by (length t.posts)) t.nodes node (λ x. refl) (λ x. refl))
    (λ p q feasible. unbeaten_kept d t (effect d t (event.Post node front point leaf)) p q refl refl (points_with t.posts (posted_point d t.entries node front point leaf ∷ []))) h
cover_step d budget cs t (event.Append post basis cut) dec running may pool posts h =
    cover_kept d t (effect d t (event.Append post basis cut)) (open_freed (slice_get t.posts post) (length t.cuts) t.nodes)
    (λ p q feasible. unbeaten_kept d t (effect d t (event.Append post basis cut)) p q refl refl (points_changed (ended_by t.entries) t.posts post (λ x. refl))) h
cover_step d budget cs t (event.Again post basis place) dec running may pool posts h =
    cover_kept d t (effect d t (event.Again post basis place)) (open_freed (slice_get t.posts post) place t.nodes)
    (λ p q feasible. unbeaten_kept d t (effect d t (event.Again post basis place)) p q refl refl (points_changed (ended_by t.entries) t.posts post (λ x. refl))) h
cover_step d budget cs t (event.Fill post block y) dec running may pool posts h =
    cover_kept d t (effect d t (event.Fill post block y)) (open_same t.nodes)
    (λ p q feasible. unbeaten_kept d t (effect d t (event.Fill post block y)) p q refl refl (points_changed (filled_by t.entries block y) t.posts post (λ x. refl))) h
cover_step d budget cs t (event.Incumbent post) dec running may pool posts h =
    cover_kept d t (effect d t (event.Incumbent post)) (open_same t.nodes) (incumbent_unbeaten d t post may posts) h
cover_step d budget cs t (event.Close number w) dec running may pool posts h =
    λ p q feasible better. close_cover d t number w dec running pool.valid posts may.closing h p q feasible
    (unbeaten_kept d t (effect d t (event.Close number w)) p q refl refl (points_ended t.entries t.posts (live_of (slice_get t.nodes number))) better)
cover_step d budget cs t (event.Stop reason) dec running may pool posts h = h

-- ---- all histories
begins : (d : Decomposition) (root : Region) → IsDecomposed d.model d.part → IsRootRegion d.model root → KeepsBetterPoints d (opening root)
begins d root dec r p q feasible better = record { number = 0; node = side 0 root; is_node = refl; stands_open = refl; lies = lies_in_root d.model d.part (box_of root) p q dec r.is_root feasible }

pub nothing_better_is_lost : NothingBetterIsLost
nothing_better_is_lost d budget root es t dec r = histories_grow d budget root (λ es u. KeepsBetterPoints d u) (begins d root dec r.root_is)
    (λ before u x replayed step old. cover_step d budget (cuts_in before) u x.event dec step.running step.may (pooled d budget root before u replayed) (posts_are_right d budget root before u replayed) old) es t r
