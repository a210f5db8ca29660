-- The tree of a search without an open node, and what its certificate shows.
use Rattle.std.proofs.Common.{◌≡◌, refl, sym, ◌∙◌, ap, subst, ℕ, zero, suc, ◌+◌, ◌<◌, ◌≤◌, List, [], ◌∷◌, length, inl, inr, arith, ℤ, pos, ◌+ℤ◌, ◌*ℤ◌, ◌≤ℤ◌}
use Rattle.std.proofs.lemmas.Int.{ints}
use Rattle.std.proofs.lemmas.List.{take-append-drop}
use Rattle.std.proofs.lemmas.Option.{slice_get_within}
use Rattle.std.specs.Prelude.{Option, Some, None, false, drop, is_none, take}
use Rattle.std.specs.List.{AllByRecursion, enumerate_from, list_any}
use Rattle.bz_model.specs.declared.Parts.{Parts}
use Rattle.bz_model.specs.Parting.{inequalities_of, integers_of}
use Rattle.bz_model.specs.PartPoints.{BlockHolds, HasPointShape}
use Rattle.bz_model.specs.PointFits.{FitsBlock, FitsCost, FitsInBlock, FitsInMaster, FitsPoint, FitsStated}
use Rattle.bz_model.proofs.MeetingParts.{all_then}
use Rattle.bz_cut.specs.Fits.{FitsCut}
use Rattle.bz_history.specs.declared.state.FallingRay.{FallingRay}
use Rattle.bz_model.specs.Splits.{Decomposition}
use Rattle.bz_cut.specs.declared.Cut.{Cut}
use Rattle.bz_cut.specs.declared.Mode.{Mode}
use Rattle.bz_cut.specs.declared.Mode.TheVariants as mode
use Rattle.bz_tree.specs.declared.Leaf.{Leaf}
use Rattle.bz_tree.specs.Integers.{integer_at}
use Rattle.bz_tree.specs.Leaves.{LeafHolds}
use Rattle.bz_tree.specs.TreeFits.{FitsLeaf, FitsTree}
use Rattle.bz_tree.specs.Trees.{EachLeaf, HoldsOver, IsEmpty, IsSplitOf, Reaches, Tree, preorder, with_lower}
use Rattle.bz_tree.specs.Verdicts.{PassesInfeasible, PassesOptimal, PassesUnbounded}
use Rattle.bz_tree.specs.Integers.{IntegerHolds}
use Rattle.bz_cert.specs.declared.records.Certificate.{Certificate}
use Rattle.bz_cert.specs.declared.records.Verdict.{Verdict}
use Rattle.bz_cert.specs.declared.records.Verdict.TheVariants as verdict
use Rattle.bz_cert.specs.Fits.{Fits, FitsAs, FitsBound, FitsOptimal, FitsUnbounded}
use Rattle.bz_cert.specs.Passing.{Passes, PassesAs}
use Rattle.bz_event.proofs.PlacedRays.{floor_ray_falls}
use Rattle.bz_tree.proofs.MoreCuts.{leaves_keep}
use Rattle.bz_pass.proofs.PointsOfParts.{AreFeasible}
use Rattle.bz_event.specs.declared.events.How.{How}
use Rattle.bz_event.specs.declared.events.How.TheVariants as how
use Rattle.bz_event.specs.Nodes.{value_of}
use Rattle.bz_history.specs.declared.state.Closing.{Closing}
use Rattle.bz_history.specs.declared.state.Node.{Node}
use Rattle.bz_history.specs.declared.state.Post.{Post}
use Rattle.bz_history.specs.declared.state.Region.{Region}
use Rattle.bz_history.specs.Certificates.{CertificatesAreRight, IsForkAt, IsInfeasibleCertificate, IsOptimalCertificate, IsTipAt, IsTreeAt, IsUnboundedCertificate, without_etas}
use Rattle.bz_history.specs.Finished.{completions, parts_of}
use Rattle.bz_history.specs.Leaves.{IsClosedBy, LeavesReach}
use Rattle.bz_history.specs.Pools.{IsPoolOf}
use Rattle.bz_history.specs.Posts.{IsPostOf}
use Rattle.bz_history.specs.States.{State, above, below, box_of, is_open, mode_of}
use Rattle.bz_history.specs.Steps.{IsAt, IsBest, IsFilled, ReachesBest}
use Rattle.bz_history.specs.Trees.{HasRegion, IsEnd, IsEndedRight, IsLeafAt, IsSplitAt, IsTree}
use Rattle.bz_history.proofs.BestSteps.{best_is_filled}
use Rattle.bz_history.proofs.FinishedSearches.{completed, none_open, post_feasible, post_integers, post_shape}
use Rattle.bz_history.proofs.LeafSteps.{leaves_are_right}
use Rattle.bz_history.proofs.Lists.{at_one}
use Rattle.bz_history.proofs.PoolSteps.{pools_are_right}
use Rattle.bz_history.proofs.PostSteps.{posts_are_right}
use Rattle.bz_history.proofs.RaySteps.{IsRayOf, ray_is_right}
use Rattle.bz_history.proofs.TreeSteps.{trees_are_whole}

-- ---- there is a tree
-- a node that is there
pub node_at : (nodes : List Node) (n : ℕ) → n < length nodes → (x : Node) × IsAt nodes n x
node_at [] n l = absurd (omega arith)
node_at (x ∷ nodes) zero l = (x, refl)
node_at (x ∷ nodes) (suc n) l = node_at nodes n (omega arith)

-- the split that a node's end speaks of
split_of : (d : Decomposition) (cuts : List Cut) (nodes : List Node) (n : ℕ) (region : Region) (closing : Closing) (front : ℕ) (basis : List ℕ) (position : ℕ) (value : ℤ) → closing.how ≡ how.Split front basis position value → IsEnd d cuts nodes n region closing.kids closing.how → IsSplitAt d nodes n region position value closing.kids
split_of d cuts nodes n region closing front basis position value is h = subst (IsEnd d cuts nodes n region closing.kids) is h

leaf_of : (d : Decomposition) (cuts : List Cut) (nodes : List Node) (n : ℕ) (region : Region) (closing : Closing) (front : ℕ) (leaf : Leaf) → closing.how ≡ how.Leaf front leaf → IsEnd d cuts nodes n region closing.kids closing.how → IsLeafAt d cuts region front leaf
leaf_of d cuts nodes n region closing front leaf is h = subst (IsEnd d cuts nodes n region closing.kids) is h

-- the tree below a node, where there is one below each later node
node_tree : (d : Decomposition) (cuts : List Cut) (nodes : List Node) → list_any is_open nodes ≡ false → (n : ℕ) (x : Node) → IsAt nodes n x → IsEndedRight d cuts nodes n x.region x.closing
    → ((m : ℕ) → n < m → m < length nodes → (t : Tree) × IsTreeAt nodes m t) → (t : Tree) × IsTreeAt nodes n t
node_tree d cuts nodes none n x is ended later = by x.closing refl
  where
    fork : (closing : Closing) → x.closing ≡ Some closing → (front : ℕ) (basis : List ℕ) (position : ℕ) (value : ℤ) → closing.how ≡ how.Split front basis position value → (t : Tree) × IsTreeAt nodes n t
    fork closing closed front basis position value by_split =
        let s : IsSplitAt d nodes n x.region position value closing.kids = split_of d cuts nodes n x.region closing front basis position value by_split (subst (IsEndedRight d cuts nodes n x.region) closed ended) in
        let first : closing.kids < length nodes = slice_get_within nodes closing.kids s.left.node s.left.is_node in
        let second : suc closing.kids < length nodes = slice_get_within nodes (suc closing.kids) s.right.node s.right.is_node in
        let after : n < closing.kids = s.later in
        let next : n < suc closing.kids = omega arith in
        let a : (t : Tree) × IsTreeAt nodes closing.kids t = later closing.kids after first in
        let b : (t : Tree) × IsTreeAt nodes (suc closing.kids) t = later (suc closing.kids) next second in (
          Tree.fork position value (value +ℤ pos 1) a.0 b.0,
          (closing.kids, record { node = x; is_node = is; closing = closing; closed = closed; front = front; basis = basis; by_split = by_split; next = refl; kids_are = refl }, a.1, b.1),
        )

    end : (closing : Closing) → x.closing ≡ Some closing → (h : How) → closing.how ≡ h → (t : Tree) × IsTreeAt nodes n t
    end closing closed (how.Leaf front leaf) by_leaf = (Tree.tip leaf, record { node = x; is_node = is; closing = closing; closed = closed; front = front; by_leaf = by_leaf })
    end closing closed (how.Split front basis position value) by_split = fork closing closed front basis position value by_split

    by : (o : Option Closing) → x.closing ≡ o → (t : Tree) × IsTreeAt nodes n t
    by None no_end = absurd (none_open nodes n x none is (ap (λ (o : Option Closing). is_none o) no_end))
    by (Some closing) closed = end closing closed closing.how refl

-- below each node there is a tree; the sides of a split come later, of which there are at most `fuel`
tree_below : (d : Decomposition) (root : Region) (cuts : List Cut) (nodes : List Node) → IsTree d root cuts nodes → list_any is_open nodes ≡ false
    → (fuel n : ℕ) → length nodes ≤ n + fuel → n < length nodes → (tree : Tree) × IsTreeAt nodes n tree
tree_below d root cuts nodes tree none zero n most inside = absurd (omega arith)
tree_below d root cuts nodes tree none (suc fuel) n most inside =
    let x : (y : Node) × IsAt nodes n y = node_at nodes n inside in
    node_tree d cuts nodes none n x.0 x.1 (tree.each n x.0 x.1) (λ m after there. tree_below d root cuts nodes tree none fuel m (omega arith) there)

-- ---- what the tree shows
-- a leaf over its front holds over all cuts
holds_over_all : (d : Decomposition) (cuts : List Cut) (region : Region) (front : ℕ) (leaf : Leaf) → IsLeafAt d cuts region front leaf → LeafHolds d.model d.part (box_of region) cuts leaf
holds_over_all d cuts region front leaf h = subst (λ (cs : List Cut). LeafHolds d.model d.part (box_of region) cs leaf) (take-append-drop front cuts) (leaves_keep.holds d.model d.part (box_of region) (take front cuts) (drop front cuts) leaf h.holds)

fits_over_all : (d : Decomposition) (cuts : List Cut) (region : Region) (front : ℕ) (leaf : Leaf) → IsLeafAt d cuts region front leaf → FitsLeaf d.model d.part (box_of region) cuts leaf
fits_over_all d cuts region front leaf h = subst (λ (cs : List Cut). FitsLeaf d.model d.part (box_of region) cs leaf) (take-append-drop front cuts) (leaves_keep.fits d.model d.part (box_of region) (take front cuts) (drop front cuts) leaf h.holds.lambda h.fits)

-- the leaf of a tip, over the region of its node
tip_leaf : (d : Decomposition) (root : Region) (cuts : List Cut) (nodes : List Node) (n : ℕ) (region : Region) (leaf : Leaf) → IsTree d root cuts nodes → HasRegion nodes n region → (t : IsTipAt nodes n leaf) → IsLeafAt d cuts region t.front leaf
tip_leaf d root cuts nodes n region leaf tree here t =
    let own : t.node.region ≡ region = ap (λ (x : Node). x.region) (at_one nodes n t.node here.node t.is_node here.is_node) ∙ here.region_is in
    subst (λ (r : Region). IsLeafAt d cuts r t.front leaf) own
    (leaf_of d cuts nodes n t.node.region t.closing t.front leaf t.by_leaf (subst (IsEndedRight d cuts nodes n t.node.region) t.closed (tree.each n t.node t.is_node)))

-- the split of a fork, over the region of its node
pub fork_split : (d : Decomposition) (root : Region) (cuts : List Cut) (nodes : List Node) (n position : ℕ) (left right : ℤ) (kids : ℕ) (region : Region) → IsTree d root cuts nodes → HasRegion nodes n region → IsForkAt nodes n position left right kids → IsSplitAt d nodes n region position left kids
fork_split d root cuts nodes n position left right kids region tree here f =
    let own : f.node.region ≡ region = ap (λ (x : Node). x.region) (at_one nodes n f.node here.node f.is_node here.is_node) ∙ here.region_is in
    subst (λ (r : Region). IsSplitAt d nodes n r position left kids) own
    (subst (IsSplitAt d nodes n f.node.region position left) f.kids_are
    (split_of d cuts nodes n f.node.region f.closing f.front f.basis position left f.by_split (subst (IsEndedRight d cuts nodes n f.node.region) f.closed (tree.each n f.node f.is_node))))

holds_below : (d : Decomposition) (root : Region) (cuts : List Cut) (nodes : List Node) → IsTree d root cuts nodes → (tree : Tree) (n : ℕ) (region : Region) → HasRegion nodes n region → IsTreeAt nodes n tree → HoldsOver d.model d.part cuts (box_of region) tree
holds_below d root cuts nodes t (Tree.tip leaf) n region here at = holds_over_all d cuts region at.front leaf (tip_leaf d root cuts nodes n region leaf t here at)
holds_below d root cuts nodes t (Tree.fork position left right a b) n region here (kids, fork, at_a, at_b) =
    let s : IsSplitAt d nodes n region position left kids = fork_split d root cuts nodes n position left right kids region t here fork in
    let k : ℕ = integer_at d.model d.part position in (
      k,
      subst (λ (r : ℤ). IsSplitOf d.model d.part k position left r) (sym fork.next) s.is_split,
      holds_below d root cuts nodes t a kids (below k left region) s.left at_a,
      subst (λ (r : ℤ). HoldsOver d.model d.part cuts (with_lower k r (box_of region)) b) (sym fork.next) (holds_below d root cuts nodes t b (suc kids) (above k left region) s.right at_b),
    )

fits_below : (d : Decomposition) (root : Region) (cuts : List Cut) (nodes : List Node) → IsTree d root cuts nodes → (tree : Tree) (n : ℕ) (region : Region) → HasRegion nodes n region → IsTreeAt nodes n tree → FitsTree d.model d.part cuts (box_of region) tree
fits_below d root cuts nodes t (Tree.tip leaf) n region here at = fits_over_all d cuts region at.front leaf (tip_leaf d root cuts nodes n region leaf t here at)
fits_below d root cuts nodes t (Tree.fork position left right a b) n region here (kids, fork, at_a, at_b) =
    let s : IsSplitAt d nodes n region position left kids = fork_split d root cuts nodes n position left right kids region t here fork in
    let k : ℕ = integer_at d.model d.part position in (
      fits_below d root cuts nodes t a kids (below k left region) s.left at_a,
      subst (λ (r : ℤ). FitsTree d.model d.part cuts (with_lower k r (box_of region)) b) (sym fork.next) (fits_below d root cuts nodes t b (suc kids) (above k left region) s.right at_b),
    )

-- what each closing leaf has, each leaf of the tree has
each_below : (nodes : List Node) (P : Leaf → Type 0) → ((leaf : Leaf) → IsClosedBy nodes leaf → P leaf) → (tree : Tree) (n : ℕ) → IsTreeAt nodes n tree → EachLeaf P tree
each_below nodes P h (Tree.tip leaf) n at = h leaf (record { number = n; node = at.node; is_node = at.is_node; closing = at.closing; closed = at.closed; front = at.front; by_leaf = at.by_leaf })
each_below nodes P h (Tree.fork position left right a b) n (kids, fork, at_a, at_b) = (each_below nodes P h a kids at_a, each_below nodes P h b (suc kids) at_b)

-- without a best post each leaf is empty
empty_without : (d : Decomposition) (t : State) (leaf : Leaf) → t.best ≡ None → ReachesBest d t leaf → IsEmpty leaf
empty_without d t leaf none (inl e) = e
empty_without d t leaf none (inr (b, is, positive, reach)) =
    let both : None ≡ Some is.0 = sym none ∙ is.1 in
    absurd (cc)

some_same : (i j : ℕ) → Some i ≡ Some j → i ≡ j
some_same i j e = cc

reaches_value : (d : Decomposition) (t : State) (leaf : Leaf) (post : Post) → IsBest t post → ReachesBest d t leaf → Reaches (value_of d.model d.part post.point) post.point.den leaf
reaches_value d t leaf post best (inl e) positive = absurd (omega (arith, ints))
reaches_value d t leaf post best (inr (b, is, more, reach)) positive =
    let same : is.0 ≡ best.0 = some_same is.0 best.0 (sym is.1 ∙ best.1) in
    let own : b ≡ post = at_one t.posts best.0 b post (subst (λ (k : ℕ). IsAt t.posts k b) same is.2) best.2 in
    subst (λ (x : Post). (value_of d.model d.part x.point *ℤ leaf.delta) ≤ℤ (leaf.bound *ℤ x.point.den)) own reach

-- ---- the certificate
blocks_hold : (d : Decomposition) (t : State) (post : Post) → IsPostOf d mode.Cost t.nodes t.cuts post → IsFilled post → AllByRecursion (λ e. BlockHolds d.model d.part post.point e.0 e.1) (enumerate_from 1 (completions post.fills))
blocks_hold d t post h filled = completed (λ e. BlockHolds d.model d.part post.point e.0 e.1) 1 post.fills filled (λ b fill is. subst (λ (k : ℕ). BlockHolds d.model d.part post.point k fill.y) (one_more b) (h.fills b fill is).cost.0)
  where
    one_more : (b : ℕ) → suc b ≡ 1 + b
    one_more b = omega arith

-- the fits of a post's completions
post_fits : (d : Decomposition) (way : Mode) (t : State) (post : Post) → IsPostOf d way t.nodes t.cuts post → IsFilled post → FitsPoint d.model d.part (parts_of post)
post_fits d way t post h filled = record {
  master = h.posted.fits;
  blocks = completed (λ e. FitsBlock d.model d.part post.point e.0 e.1) 1 post.fills filled (λ b fill is. subst (λ (k : ℕ). FitsBlock d.model d.part post.point k fill.y) (one_more b) (h.fills b fill is).fits);
}
  where
    one_more : (b : ℕ) → suc b ≡ 1 + b
    one_more b = omega arith

costs_fit : (d : Decomposition) (t : State) (post : Post) → IsPostOf d mode.Cost t.nodes t.cuts post → IsFilled post → AllByRecursion (λ e. FitsCost d.model d.part post.point e.0 e.1) (enumerate_from 1 (completions post.fills))
costs_fit d t post h filled = completed (λ e. FitsCost d.model d.part post.point e.0 e.1) 1 post.fills filled (λ b fill is. subst (λ (k : ℕ). FitsCost d.model d.part post.point k fill.y) (one_more b) (h.fills b fill is).cost.1)
  where
    one_more : (b : ℕ) → suc b ≡ 1 + b
    one_more b = omega arith

pub certificates_are_right : CertificatesAreRight
certificates_are_right d budget root es t dec r = record { has_tree = has_tree; optimal = optimal; infeasible = infeasible; unbounded = unbounded }
  where
    whole : IsTree d root t.cuts t.nodes
    whole = trees_are_whole d budget root es t r

    pool : IsPoolOf d es t
    pool = pools_are_right d budget root es t r

    leaves : LeavesReach d t
    leaves = leaves_are_right d budget root es t r

    filled : (post : Post) → IsBest t post → IsFilled post
    filled post best =
        let b : (x : Post) × IsAt t.posts best.0 x × IsFilled x = best_is_filled d budget root es t r best.0 best.1 in
        subst IsFilled (at_one t.posts best.0 b.0 post b.1 best.2) b.2

    right : (post : Post) → IsBest t post → IsPostOf d (mode_of t) t.nodes t.cuts post
    right post best = posts_are_right d budget root es t r best.0 post best.2

    has_tree : list_any is_open t.nodes ≡ false → (tree : Tree) × IsTreeAt t.nodes 0 tree
    has_tree none = tree_below d root t.cuts t.nodes whole none (length t.nodes) 0 (omega arith) (slice_get_within t.nodes 0 whole.first.node whole.first.is_node)

    bound : (tree : Tree) (c : Certificate) → IsTreeAt t.nodes 0 tree → c.cuts ≡ t.cuts → c.tree ≡ preorder tree → FitsBound d.model d.part c
    bound tree c at cuts tree_is = record {
      cuts = subst (AllByRecursion (FitsCut d.model d.part)) (sym cuts) pool.fit;
      root = box_of root;
      is_root = r.root_is.is_root;
      tree = tree;
      is_tree = tree_is;
      leaves = subst (λ (cs : List Cut). FitsTree d.model d.part cs (box_of root) tree) (sym cuts) (fits_below d root t.cuts t.nodes whole tree 0 root whole.first at);
    }

    empty_tree : t.best ≡ None → (tree : Tree) → IsTreeAt t.nodes 0 tree → PassesInfeasible d.model d.part t.cuts (preorder tree)
    empty_tree no_best tree at = record {
      cuts = pool.valid;
      root = box_of root;
      is_root = r.root_is.is_root;
      tree = tree;
      is_tree = refl;
      holds = holds_below d root t.cuts t.nodes whole tree 0 root whole.first at;
      empty = each_below t.nodes IsEmpty (λ leaf c. empty_without d t leaf no_best (leaves leaf c)) tree 0 at;
    }

    best_tree : mode_of t ≡ mode.Cost → (post : Post) → IsBest t post → (tree : Tree) → IsTreeAt t.nodes 0 tree → PassesOptimal d.model d.part (parts_of post) (value_of d.model d.part post.point) t.cuts (preorder tree)
    best_tree cost post best tree at =
        let h : IsPostOf d (mode_of t) t.nodes t.cuts post = right post best in
        record {
          shape = record { point = post_shape d (mode_of t) t.nodes post t.cuts h (filled post best); eta = h.posted.shape.eta };
          master = h.posted.rows;
          root = box_of root;
          is_root = r.root_is.is_root;
          integers = post_integers d root (mode_of t) t post whole h;
          blocks = blocks_hold d t post (subst (λ (w : Mode). IsPostOf d w t.nodes t.cuts post) cost h) (filled post best);
          value = refl;
          cuts = pool.valid;
          tree = tree;
          is_tree = refl;
          holds = holds_below d root t.cuts t.nodes whole tree 0 root whole.first at;
          bounds = each_below t.nodes (Reaches (value_of d.model d.part post.point) post.point.den) (λ leaf c. reaches_value d t leaf post best (leaves leaf c)) tree 0 at;
        }

    infeasible : t.best ≡ None → (tree : Tree) → IsTreeAt t.nodes 0 tree → (c : Certificate) → IsInfeasibleCertificate t.cuts tree c → Passes d.model d.part c × Fits d.model d.part c
    infeasible no_best tree at c is = (
      record { as_its_verdict = subst (λ (v : Verdict). PassesAs d.model d.part c v c.parts) (sym is.verdict) (subst (λ (cs : List Cut). PassesInfeasible d.model d.part cs c.tree) (sym is.cuts_are) (subst (PassesInfeasible d.model d.part t.cuts) (sym is.tree_is) (empty_tree no_best tree at))) },
      record { as_its_verdict = subst (λ (v : Verdict). FitsAs d.model d.part c v c.parts) (sym is.verdict) (bound tree c at is.cuts_are is.tree_is) },
    )

    optimal : mode_of t ≡ mode.Cost → (post : Post) → IsBest t post → (tree : Tree) → IsTreeAt t.nodes 0 tree → (c : Certificate) → IsOptimalCertificate d t.cuts post tree c → Passes d.model d.part c × Fits d.model d.part c
    optimal cost post best tree at c is = (
      record { as_its_verdict = subst (λ (v : Verdict). PassesAs d.model d.part c v c.parts) (sym is.verdict) (subst (PassesAs d.model d.part c verdict.Optimal) (sym is.parts) passes) },
      record { as_its_verdict = subst (λ (v : Verdict). FitsAs d.model d.part c v c.parts) (sym is.verdict) (subst (FitsAs d.model d.part c verdict.Optimal) (sym is.parts) fits) },
    )
      where
        h : IsPostOf d mode.Cost t.nodes t.cuts post
        h = subst (λ (w : Mode). IsPostOf d w t.nodes t.cuts post) cost (right post best)

        passes : PassesOptimal d.model d.part (parts_of post) c.value c.cuts c.tree
        passes = subst (λ (v : ℤ). PassesOptimal d.model d.part (parts_of post) v c.cuts c.tree) (sym is.value)
            (subst (λ (cs : List Cut). PassesOptimal d.model d.part (parts_of post) (value_of d.model d.part post.point) cs c.tree) (sym is.cuts_are)
            (subst (PassesOptimal d.model d.part (parts_of post) (value_of d.model d.part post.point) t.cuts) (sym is.tree_is) (best_tree cost post best tree at)))

        fits : FitsOptimal d.model d.part (parts_of post) c
        fits = record {
          point = post_fits d mode.Cost t post h (filled post best);
          costs = costs_fit d t post h (filled post best);
          value = h.posted.fits_value.0;
          stated = subst (λ (v : ℤ). FitsStated d.model v post.point.den) (sym is.value) h.posted.fits_value.1;
          bound = bound tree c at is.cuts_are is.tree_is;
        }

    unbounded : (post : Post) → IsBest t post → (ray : FallingRay) → t.ray ≡ Some ray → (c : Certificate) → IsUnboundedCertificate d post ray c → Passes d.model d.part c × Fits d.model d.part c
    unbounded post best ray ray_is c is = (
      record { as_its_verdict = subst (λ (v : Verdict). PassesAs d.model d.part c v c.parts) (sym is.verdict) (subst (PassesAs d.model d.part c verdict.Unbounded) (sym is.parts) passes) },
      record { as_its_verdict = subst (λ (v : Verdict). FitsAs d.model d.part c v c.parts) (sym is.verdict) (subst (FitsAs d.model d.part c verdict.Unbounded) (sym is.parts) fits) },
    )
      where
        h : IsPostOf d (mode_of t) t.nodes t.cuts post
        h = right post best

        own : IsRayOf d ray
        own = ray_is_right d budget root es t r ray ray_is

        full : AreFeasible d.model d.part (parts_of post)
        full = post_feasible d root (mode_of t) t post whole r.root_is.is_root h (filled post best)

        shape : HasPointShape d.model d.part (parts_of post)
        shape = post_shape d (mode_of t) t.nodes post t.cuts h (filled post best)

        parts : Parts
        parts = record { master = without_etas post.point; blocks = completions post.fills }

        passes : PassesUnbounded d.model d.part parts c.ray
        passes = subst (PassesUnbounded d.model d.part parts) (sym is.ray_is) (record {
          shape = record { master = record { den = shape.master.den; x = shape.master.x }; blocks = shape.blocks; each = shape.each };
          master = h.posted.rows;
          root = box_of root;
          is_root = r.root_is.is_root;
          integers = all_then (IntegerHolds d.part (box_of root) post.point) (IntegerHolds d.part (box_of root) (without_etas post.point)) (enumerate_from 0 (integers_of d.model)) (post_integers d root (mode_of t) t post whole h)
              (λ e i. record { whole = i.whole; at_least = i.at_least; at_most = i.at_most });
          blocks = full.rows;
          falls = floor_ray_falls d.model d.part ray.block ray.d dec own.first own.last own.is_ray;
        })

        point : FitsPoint d.model d.part (parts_of post)
        point = post_fits d (mode_of t) t post h (filled post best)

        fits : FitsUnbounded d.model d.part parts c.ray
        fits = subst (FitsUnbounded d.model d.part parts) (sym is.ray_is) (record {
          point = record {
            master = all_then (FitsInMaster post.point) (FitsInMaster (without_etas post.point)) (inequalities_of d.model d.part 0) point.master (λ i f. record { sum = f.sum; side = f.side });
            blocks = all_then (λ e. FitsBlock d.model d.part post.point e.0 e.1) (λ e. FitsBlock d.model d.part (without_etas post.point) e.0 e.1) (enumerate_from 1 (completions post.fills)) point.blocks
                (λ e f. record { scale = f.scale; rows = all_then (FitsInBlock post.point e.1) (FitsInBlock (without_etas post.point) e.1) (inequalities_of d.model d.part e.0) f.rows (λ i g. record { in_master = g.in_master; in_block = g.in_block; together = g.together; side = g.side }) });
          };
          rows = own.is_ray.fits.rows;
          cost = own.is_ray.fits.cost;
        })
